-- Where a refusal has its reason it is given: the machine passes what stands before the position, and stops there.
use Prim.Native.Nat.{ℕ, zero, suc, ◌+◌, ◌≤◌, ◌<◌}
use mathlib.Core.Path.{◌≡◌, refl, sym, ap, ◌∙◌, subst}
use mathlib.Core.Bool.{Bool, true, false, cond}
use mathlib.Core.List.{List, [], ◌∷◌}
use mathlib.Core.Option.{Option, none, some}
use native.Mathlib.Omega.{arith}
use lib.Dec.{leb}
use lib.ListN.{length, get_or, take, drop, drop_of_length-le}
use lib.Seq.{take_all, drop-cons, take-suc}
use borrow.Author.Tests.{le-leb, leb-false}
use Rattle.message_rules.specs.Answer.{wrong_grammar, no_node_room, too_deep}
use Rattle.capabilities_rules.specs.Limits.{deepest}
use Rattle.capabilities_rules.specs.Grammar.{Items, Text}
use Rattle.capabilities_rules.specs.Machine.{kind_of, Phase, before, inside, after, act, to, depth, run_by, run, run_capped, capped, uncapped, moved}
use Rattle.capabilities_rules.specs.Outcome.{judge, unless, fault, counted, Refused, ending, outcome}
use Rattle.capabilities_rules.specs.Prefixes.{Viable, ViableCapped, words_in, Clear, Why, too_long, cut_short, wrong_byte, ninth-open, no_node}
use Rattle.capabilities_rules.specs.Kinds.{ByteKind}
use Rattle.capabilities_rules.specs.Kinds.{Open, Close, Space, Letter, Zero, Other}
use Rattle.capabilities_rules.specs.Kinds.{Free, Word, Gap}
use Rattle.capabilities_rules.specs.Kinds.{Act}
use Rattle.capabilities_rules.specs.Kinds.{Enter, Leave, Begin, Extend, Skip, Refuse}
use Rattle.capabilities_rules.proofs.Whole.{outcome-short, outcome-long}
use Rattle.capabilities_rules.proofs.Walk.{Taken, entered, free}
use Rattle.capabilities_rules.proofs.Parse.{none-some, complete}
use Rattle.capabilities_rules.proofs.Prefixes.{run-append, run-viable, viable-run, capped-viable, viable-capped}
use Rattle.capabilities_rules.proofs.Refusals.{in_word, news, run_on, words_on}

-- an act that the cap lets through
record Passing (p : Phase) (a : Act) : Type 0 where
  taken : Taken a
  same : capped p a ≡ a
  low : entered a p ≤ deepest

passing : (p : Phase) (a : Act) (r : Option Phase) {q : Phase} → moved (capped p a) r ≡ some q → Passing p a
passing p Enter r e = go (leb deepest (depth p)) refl e
  where
    go : {q : Phase} (t : Bool) → leb deepest (depth p) ≡ t → moved (cond t Refuse Enter) r ≡ some q → Passing p Enter
    go true f e = none-some e
    go false f e = record { taken = tt; same = ap (λ (t : Bool). cond t Refuse Enter) f; low = leb-false deepest (depth p) f }
passing p Leave r e = record { taken = tt; same = refl; low = omega arith }
passing p Begin r e = record { taken = tt; same = refl; low = omega arith }
passing p Extend r e = record { taken = tt; same = refl; low = omega arith }
passing p Skip r e = record { taken = tt; same = refl; low = omega arith }
passing p Refuse r e = none-some e

-- the machine passes the first j bytes of s from q, stands at `end`, and judges on from there
record Carried (room at n : ℕ) (q : Phase) (s : List ℕ) (j : ℕ) (end : Phase) : Type 0 where
  judged : judge room at n q s ≡ judge room (at + j) (n + words_in (in_word q) (take j s)) end (drop j s)
  ran : run q (take j s) ≡ some end
  words : words_in (in_word q) (take (suc j) s) ≡ words_in (in_word q) (take j s) + words_in (in_word end) (take 1 (drop j s))

carry : (room : ℕ) (s : List ℕ) (j at n : ℕ) (q end : Phase) → run_capped q (take j s) ≡ some end → j ≤ length s → n + words_in (in_word q) (take j s) ≤ room → Carried room at n q s j end
unfolding run_by words_in judge
carry room s zero at n q end e h fits =
    let same : q ≡ end = cc in
    let here : at ≡ at + 0 = omega arith in
    let made : n ≡ n + 0 = omega arith in
    subst (Carried room at n q s 0) same (record { judged = ap (λ (i : ℕ). judge room i n q s) here ∙ ap (λ (k : ℕ). judge room (at + 0) k q s) made; ran = refl; words = omega arith })
carry room [] (suc j) at n q end e h fits = absurd (omega arith)
carry room (b ∷ s) (suc j) at n q end e h fits =
    let a : Act = act q (kind_of b) in
    let ok = passing q a (run_by capped (to q a) (take j s)) e in
    let w = words_on room n q b a refl ok.taken in
    let there : at + 1 + j ≡ at + suc j = omega arith in
    let i = carry room s j (at + 1) (counted n a) (to q a) end (sym (run_on room n q b a refl ok.taken capped (take j s) ok.same) ∙ e) (omega arith) (omega (arith, w (take j s))) in
    record {
      judged = ap (λ (k : ℕ). unless k at (judge room (at + 1) (counted n a) (to q a) s)) (free a ok.taken room n q (omega (arith, w (take j s))) ok.low)
          ∙ i.judged ∙ ap (λ (k : ℕ). judge room k (counted n a + words_in (in_word (to q a)) (take j s)) end (drop j s)) there
          ∙ ap (λ (k : ℕ). judge room (at + suc j) k end (drop j s)) (sym (w (take j s)));
      ran = run_on room n q b a refl ok.taken uncapped (take j s) refl ∙ i.ran;
      words = omega (arith, w (take j s), w (take (suc j) s), i.words);
    }

-- the byte at a position, by what it does there
judge_byte : (room at n : ℕ) (q : Phase) (s : List ℕ) (p : ℕ) (a : Act) → p < length s → a ≡ act q (kind_of (get_or s p 0))
    → judge room at n q (drop p s) ≡ unless (fault room n q a) at (judge room (at + 1) (counted n a) (to q a) (drop (suc p) s))
unfolding judge
judge_byte room at n q s p a h e =
    ap (judge room at n q) (drop-cons s p 0 h)
    ∙ ap (λ (x : Act). unless (fault room n q x) at (judge room (at + 1) (counted n x) (to q x) (drop (suc p) s))) (sym e)

module _ (room : ℕ) (s : List ℕ) (p : ℕ) (clear : Clear room p s) (h : p ≤ length s) where
  at_p : (end : Phase) × Carried room 0 0 before s p end × (run_capped before (take p s) ≡ some end)
  at_p =
      let v = viable-capped (take p s) clear.viable in
      (v.0, carry room s p 0 0 before v.0 v.1 h (omega (arith, clear.roomy)), v.1)

  abbrev end : Phase
  end = at_p.0

  reached : outcome room s ≡ judge room p (words_in false (take p s)) end (drop p s)
  reached =
      let same : 0 + p ≡ p = omega arith in
      let words : 0 + words_in false (take p s) ≡ words_in false (take p s) = omega arith in
      outcome-short room s clear.short ∙ at_p.1.judged
      ∙ ap (λ (k : ℕ). judge room k (0 + words_in false (take p s)) end (drop p s)) same
      ∙ ap (λ (k : ℕ). judge room p k end (drop p s)) words

  -- one byte further, whatever caps the depth
  run_byte : (f : Phase → Act → Act) → p < length s → run_by f before (take p s) ≡ some end → (a : Act) → a ≡ act end (kind_of (get_or s p 0)) → f end a ≡ a → Taken a
      → run_by f before (take (suc p) s) ≡ some (to end a)
  unfolding run_by
  run_byte f l e a is same t =
      ap (run_by f before) (take-suc s p 0 l) ∙ run-append f end (get_or s p 0 ∷ []) (take p s) before e
      ∙ run_on room 0 end (get_or s p 0) a is t f [] same

  run_stuck : p < length s → Refuse ≡ act end (kind_of (get_or s p 0)) → run before (take (suc p) s) ≡ none
  unfolding run_by
  run_stuck l is =
      ap (run_by uncapped before) (take-suc s p 0 l) ∙ run-append uncapped end (get_or s p 0 ∷ []) (take p s) before at_p.1.ran
      ∙ ap (λ (x : Act). moved x (run (to end x) [])) (sym is)

  stops : (k : ℕ) → p < length s → (a : Act) → a ≡ act end (kind_of (get_or s p 0)) → fault room (words_in false (take p s)) end a ≡ suc k → outcome room s ≡ Refused (suc k) p
  stops k l a is e =
      reached ∙ judge_byte room p (words_in false (take p s)) end s p a l is
      ∙ ap (λ (i : ℕ). unless i p (judge room (p + 1) (counted (words_in false (take p s)) a) (to end a) (drop (suc p) s))) e

  at_wrong : p < length s → (Viable (take (suc p) s) → ⊥) → outcome room s ≡ Refused wrong_grammar p
  at_wrong l no_more = go (act end (kind_of (get_or s p 0))) refl
    where
      on : (a : Act) → a ≡ act end (kind_of (get_or s p 0)) → Taken a → outcome room s ≡ Refused wrong_grammar p
      on a is t = absurd (no_more (run-viable (take (suc p) s) (to end a) (run_byte uncapped l at_p.1.ran a is refl t)))

      go : (a : Act) → a ≡ act end (kind_of (get_or s p 0)) → outcome room s ≡ Refused wrong_grammar p
      go Enter is = on Enter is tt
      go Leave is = on Leave is tt
      go Begin is = on Begin is tt
      go Extend is = on Extend is tt
      go Skip is = on Skip is tt
      go Refuse is = stops 12 l Refuse is refl

  at_ninth : p < length s → get_or s p 0 ≡ 0x28 → Viable (take (suc p) s) → (ViableCapped (take (suc p) s) → ⊥) → outcome room s ≡ Refused too_deep p
  at_ninth l b more no_more = go (act end (kind_of (get_or s p 0))) refl
    where
      on : (a : Act) → a ≡ act end (kind_of (get_or s p 0)) → capped end a ≡ a → Taken a → outcome room s ≡ Refused too_deep p
      on a is same t = absurd (no_more (capped-viable (take (suc p) s) (to end a) (run_byte capped l at_p.2 a is same t)))

      enter : Enter ≡ act end (kind_of (get_or s p 0)) → (t : Bool) → leb deepest (depth end) ≡ t → outcome room s ≡ Refused too_deep p
      enter is true f = stops 14 l Enter is (ap (λ (t : Bool). cond t too_deep 0) f)
      enter is false f = on Enter is (ap (λ (t : Bool). cond t Refuse Enter) f) tt

      go : (a : Act) → a ≡ act end (kind_of (get_or s p 0)) → outcome room s ≡ Refused too_deep p
      go Enter is = enter is (leb deepest (depth end)) refl
      go Leave is = on Leave is refl tt
      go Begin is = on Begin is refl tt
      go Extend is = on Extend is refl tt
      go Skip is = on Skip is refl tt
      go Refuse is = none-some (sym (run_stuck l is) ∙ (viable-run (take (suc p) s) more).1)

  -- a byte that begins a word
  begun : (q : Phase) (κ : ByteKind) → Taken (act q κ) → news (in_word q) κ ≡ 1 → Begin ≡ act q κ
  begun before Open h e = absurd (omega arith)
  begun before Close h e = absurd (omega arith)
  begun before Space h e = absurd (omega arith)
  begun before Letter h e = absurd h
  begun before Zero h e = absurd (omega arith)
  begun before Other h e = absurd (omega arith)
  begun (inside d Free) Open h e = absurd (omega arith)
  begun (inside d Free) Close h e = absurd (omega arith)
  begun (inside d Free) Space h e = absurd (omega arith)
  begun (inside d Free) Letter h e = refl
  begun (inside d Free) Zero h e = absurd (omega arith)
  begun (inside d Free) Other h e = absurd (omega arith)
  begun (inside d Word) Open h e = absurd (omega arith)
  begun (inside d Word) Close h e = absurd (omega arith)
  begun (inside d Word) Space h e = absurd (omega arith)
  begun (inside d Word) Letter h e = absurd (omega arith)
  begun (inside d Word) Zero h e = absurd (omega arith)
  begun (inside d Word) Other h e = absurd (omega arith)
  begun (inside d Gap) Open h e = absurd (omega arith)
  begun (inside d Gap) Close h e = absurd (omega arith)
  begun (inside d Gap) Space h e = absurd (omega arith)
  begun (inside d Gap) Letter h e = refl
  begun (inside d Gap) Zero h e = absurd (omega arith)
  begun (inside d Gap) Other h e = absurd (omega arith)
  begun after Open h e = absurd h
  begun after Close h e = absurd h
  begun after Space h e = absurd h
  begun after Letter h e = absurd h
  begun after Zero h e = absurd (omega arith)
  begun after Other h e = absurd h

  at_full : p < length s → words_in false (take p s) ≡ room → words_in false (take (suc p) s) ≡ suc room → ViableCapped (take (suc p) s) → outcome room s ≡ Refused no_node_room p
  unfolding run_by words_in
  at_full l full one v =
      let r = viable-capped (take (suc p) s) v in
      let byte : List ℕ = get_or s p 0 ∷ [] in
      let ran : run_capped end byte ≡ some r.0 = sym (run-append capped end byte (take p s) before at_p.2) ∙ sym (ap (run_by capped before) (take-suc s p 0 l)) ∙ r.1 in
      let ok = passing end (act end (kind_of (get_or s p 0))) (some (to end (act end (kind_of (get_or s p 0))))) ran in
      let cut : take 1 (drop p s) ≡ byte = ap (take 1) (drop-cons s p 0 l) in
      let new : words_in (in_word end) (take 1 (drop p s)) ≡ news (in_word end) (kind_of (get_or s p 0)) + 0 = ap (words_in (in_word end)) cut in
      let is = begun end (kind_of (get_or s p 0)) ok.taken (omega (arith, at_p.1.words)) in
      stops 13 l Begin is (ap (λ (t : Bool). cond t no_node_room 0) (le-leb room (words_in false (take p s)) (omega arith)))

  -- at the end of a string that is no text
  at_cut : p ≡ length s → ((xs : Items) → Text xs s → ⊥) → outcome room s ≡ Refused wrong_grammar p
  unfolding judge
  at_cut e no_text = reached ∙ ap (judge room p (words_in false (take p s)) end) (drop_of_length-le s {i = p} (omega arith)) ∙ unfinished end refl
    where
      unfinished : (q : Phase) → end ≡ q → ending p (words_in false (take p s)) q ≡ Refused wrong_grammar p
      unfinished before f = refl
      unfinished (inside d m) f = refl
      unfinished after f =
          let whole : run before s ≡ some after = sym (ap (run before) (take_all p s (omega arith))) ∙ at_p.1.ran ∙ ap some f in
          let c = complete s whole in
          absurd (no_text c.0 c.1)

pub exactly : (room : ℕ) (s : List ℕ) {k p : ℕ} → Why room s k p → outcome room s ≡ Refused k p
exactly room s (too_long h) = outcome-long room s h
exactly room s (cut_short c no_text) = at_cut room s (length s) c (omega arith) refl no_text
exactly room s (wrong_byte {p = p} c l v) = at_wrong room s p c (omega arith) l v
exactly room s (ninth-open {p = p} c l b o v n) = at_ninth room s p c (omega arith) l b v n
exactly room s (no_node {p = p} c l w m v) = at_full room s p c (omega arith) l w m v
