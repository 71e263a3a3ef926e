-- The settings that are left to be tried leave, with the answers so far, what all of them leave.
use mathlib.Core.Path.{◌≡◌, refl, sym, ap, ap₂, ◌∙◌}
use mathlib.Core.Bool.{Bool, true, false, cond, not, ◌&&◌, ◌||◌}
use mathlib.Core.List.{List, [], ◌∷◌}
use Prim.Native.Nat.{ℕ, suc, ◌+◌, ◌≤◌, ◌<◌}
use native.Mathlib.Omega.{arith}
use lib.ListN.{length, get_or, set, drop, length-set, drop_of_length-le}
use lib.Seq.{drop-cons}
use lib.Dec.{eqb}
use Rattle.buffers.specs.Buffers.{over, put}
use Rattle.buffers.proofs.Puts.{put-none, put-over, put_next, put_sets}
use Rattle.codes.specs.Codes.{all_codes, member, in_both}
use Rattle.codes.proofs.Theorems.{both_inside}
use Rattle.message_rules.specs.Answer.{done, code_not_allowed, value_too_large}
use Rattle.message_rules.specs.Message.{table_code}
use Rattle.settings_rules.specs.Settings.{exceeds_maximum, answer_to_set, set_answer, judge_set, set_code, with_present}
use Rattle.settings_rules.specs.Settings.{Change}
use Rattle.settings_rules.specs.declared.Settings.{Settings}
use Rattle.set_all_rules.specs.SetAll.{try_all, left_by_all}
use Rattle.set_all.specs.Parts.{answer_by, with_presents, left_of}

-- the parts of the settings that judge a Set, taken out
pub record Taken (s : Settings) (settable momentary continuous maximum : List ℕ) : Type 0 where
  pub settable_is : in_both s.declared s.writable ≡ settable
  pub momentary-is : s.momentary ≡ momentary
  pub continuous-is : s.continuous ≡ continuous
  pub maximum-is : s.maximum ≡ maximum

-- a code that is declared and writable is judged as both
both_judge : (declared writable : Bool) (c : ℕ) (above : Bool)
    → answer_to_set (declared && writable) c (declared && writable) above ≡ answer_to_set declared c writable above
unfolding answer_to_set
both_judge true true c above = refl
both_judge false writable c above = refl
both_judge true false c above = go (eqb c table_code)
  where
    go : (t : Bool) → code_not_allowed ≡ cond (false || t || true) code_not_allowed (cond above value_too_large done)
    go true = refl
    go false = refl

pub answer-of : (s : Settings) (settable momentary continuous maximum : List ℕ) → Taken s settable momentary continuous maximum → (c v : ℕ) → c < all_codes
    → answer_by settable continuous maximum c v ≡ set_answer s c v
unfolding set_answer
answer-of s settable momentary continuous maximum t c v h =
    rw (← t.settable_is, ← t.continuous-is, ← t.maximum-is, both_inside s.declared s.writable c h)
    (both_judge (member s.declared c) (member s.writable c) c (exceeds_maximum (member s.continuous c) (get_or s.maximum c 0) v))

-- number k on is still to be tried, with these present values and these answers
pub record Going (s : Settings) (codes values answers₀ present answers : List ℕ) (k : ℕ) : Type 0 where
  pub settings : (try_all (with_presents s present) (drop k codes) (drop k values)).settings ≡ (try_all s codes values).settings
  pub given : put answers k (try_all (with_presents s present) (drop k codes) (drop k values)).answers ≡ over (try_all s codes values).answers answers₀

-- what is left of a list is its next element and the rest
next_and_rest : (l : List ℕ) (k : ℕ) → k < length l → drop k l ≡ get_or l k 0 ∷ drop (k + 1) l
next_and_rest l k h = let e : suc k ≡ k + 1 = omega arith in drop-cons l k 0 h ∙ ap (λ (n : ℕ). get_or l k 0 ∷ drop n l) e

-- a Set with other present values is judged as before, and stores into these
one_set : (s : Settings) (present : List ℕ) (c v : ℕ)
    → set_code (with_presents s present) c v ≡ record {
      answer = (judge_set s c v).answer;
      settings = with_presents s (cond (judge_set s c v).stored (set present c v) present);
    }
unfolding set_code set_answer with_present
one_set s present c v = go (judge_set s c v).stored
  where
    go : (t : Bool)
        → ◌≡◌ {A = Change} (record { answer = (judge_set s c v).answer; settings = cond t (with_presents s (set present c v)) (with_presents s present) })
        (record { answer = (judge_set s c v).answer; settings = with_presents s (cond t (set present c v) present) })
    go true = refl
    go false = refl

module _ (s : Settings) (codes values answers₀ : List ℕ) where
  pub going_starts : Going s codes values answers₀ s.present answers₀ 0
  going_starts = record { settings = refl; given = put-over (try_all s codes values).answers answers₀ }

  pub going_on : (present answers : List ℕ) (k : ℕ) → k < length codes → length codes ≡ length values → k < length answers
      → Going s codes values answers₀ present answers k
      → let j = judge_set s (get_or codes k 0) (get_or values k 0) in
      Going s codes values answers₀ (cond j.stored (set present (get_or codes k 0) (get_or values k 0)) present) (set answers k j.answer) (k + 1)
  going_on present answers k h p l g =
      let c = get_or codes k 0 in
      let v = get_or values k 0 in
      let j = judge_set s c v in
      let more = next_and_rest codes k h in
      let also = next_and_rest values k (omega arith) in
      let rest = try_all (set_code (with_presents s present) c v).settings (drop (k + 1) codes) (drop (k + 1) values) in
      let one = one_set s present c v in
      let stored : rest.settings ≡ (try_all s codes values).settings =
      sym (ap₂ (λ (x y : List ℕ). (try_all (with_presents s present) x y).settings) more also) ∙ g.settings in
      let answered : put answers k ((set_code (with_presents s present) c v).answer ∷ rest.answers) ≡ over (try_all s codes values).answers answers₀ =
      sym (ap₂ (λ (x y : List ℕ). put answers k (try_all (with_presents s present) x y).answers) more also) ∙ g.given in
      let at_place : put (set answers k (set_code (with_presents s present) c v).answer) (k + 1) rest.answers ≡ over (try_all s codes values).answers answers₀ =
      ap (λ (x : List ℕ). put x (k + 1) rest.answers) (put_sets answers k ((set_code (with_presents s present) c v).answer ∷ []) (omega arith))
      ∙ put_next answers k ((set_code (with_presents s present) c v).answer ∷ []) rest.answers (omega arith)
      ∙ answered in
      record { settings = rw one at stored; given = rw one at at_place }

  pub going_ends : (present answers : List ℕ) (k : ℕ) → length codes ≤ k → Going s codes values answers₀ present answers k
      → left_of s present done answers ≡ left_by_all (try_all s codes values) answers₀
  going_ends present answers k h g =
      let none : drop k codes ≡ [] = drop_of_length-le codes {i = k} h in
      ap₂ (λ (x : Settings) (y : List ℕ). record { settings = x; answer = done; answers = y })
      (rw none at g.settings) (sym (put-none answers k) ∙ (rw none at g.given))

-- ---- the loop

module _ (settable momentary continuous maximum present₀ codes values answers₀ : List ℕ) where
  -- in front of setting number k: so it is for all settings of which these parts were taken out
  pub record Standing (present answers : List ℕ) (k : ℕ) : Type 0 where
    pub reached : k ≤ length codes
    pub paired : length codes ≡ length values
    pub room : length codes ≤ length answers
    pub same : length answers ≡ length answers₀
    pub whole : length present ≡ all_codes
    pub going : (s : Settings) → Taken s settable momentary continuous maximum → s.present ≡ present₀ → Going s codes values answers₀ present answers k

  -- setting number k, judged: its code as an index, and its answer
  pub record Judged (present answers : List ℕ) (k i a : ℕ) : Type 0 where
    pub standing : Standing present answers k
    pub inside : k < length codes
    pub index : i ≡ get_or codes k 0
    pub low : i < all_codes
    pub answer : a ≡ answer_by settable continuous maximum (get_or codes k 0) (get_or values k 0)

  module _ (present answers : List ℕ) (k i a : ℕ) (j : Judged present answers k i a) where
    -- an accepted value is stored where the code is kept
    pub goes-on : Standing (cond (eqb a done && not (member momentary (get_or codes k 0))) (set present i (get_or values k 0)) present) (set answers k a) (k + 1)
    goes-on =
        let now = j.standing in
        record {
          reached = omega (arith, j.inside);
          paired = now.paired;
          room = simp length-set now.room;
          same = simp length-set now.same;
          whole = either (eqb a done && not (member momentary (get_or codes k 0)));
          going = λ s t z.
              let c = get_or codes k 0 in
              let said : a ≡ set_answer s c (get_or values k 0) = j.answer ∙ answer-of s settable momentary continuous maximum t c (get_or values k 0) (omega (arith, j.index, j.low)) in
              let acts : member momentary c ≡ member s.momentary c = ap (λ (ws : List ℕ). member ws c) (sym t.momentary-is) in
              rw (j.index, said, acts) (going_on s codes values answers₀ present answers k j.inside now.paired (omega (arith, j.inside, now.room)) (now.going s t z));
        }
      where
        either : (t : Bool) → length (cond t (set present i (get_or values k 0)) present) ≡ all_codes
        either true = simp length-set j.standing.whole
        either false = j.standing.whole
