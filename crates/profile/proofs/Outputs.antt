-- Runs of bytes put into an output one behind the other.
use mathlib.Core.Path.{◌≡◌, sym, ap, ◌∙◌}
use mathlib.Core.List.{List, [], ◌∷◌, ◌++◌}
use Prim.Native.Nat.{ℕ, ◌+◌, ◌*◌, ◌≤◌, ◌<◌}
use native.Mathlib.Omega.{arith}
use lib.ListN.{length, get_or}
use borrow.Author.Tests.{le-leb, lt-leb}
use Rattle.buffers.specs.Buffers.{put, put_whole}
use Rattle.buffers.proofs.Puts.{put-none, put-length, put-over, put_next, put-fits}
use Rattle.records.specs.Numbers.{little_endian}
use Rattle.records.specs.Records.{head_of}
use Rattle.message_rules.specs.Answer.{done, wrong_size}
use Rattle.codes.specs.Codes.{all_codes, member, count_of}
use Rattle.settings_rules.specs.declared.Settings.{Settings}
use Rattle.profile_form_rules.specs.Records.{value_record, value_kind, record_length, record_size}
use Rattle.profile_rules.specs.Profile.{codes_from, profile_codes, records_of, profile_of, write_profile}
use Rattle.profile_rules.proofs.Records.{records_length}
use Rattle.profile_rules.proofs.Rising.{Found, set-count}

-- a record, put part by part
pub record_parts : (out : List ℕ) (at code value : ℕ) (o p q : List ℕ) → at + record_size ≤ length out → o ≡ put_whole out at (head_of record_length value_kind)
    → p ≡ put_whole o (at + 4) (code ∷ []) → q ≡ put_whole p (at + 5) (little_endian 2 value) → q ≡ put out at (value_record code value)
record_parts out at code value o p q h e f g =
    let head = head_of record_length value_kind in
    let one : o ≡ put out at head = e ∙ put-fits out at head (omega arith) in
    let l : length o ≡ length out = ap length one ∙ put-length out at head (omega arith) in
    let two : p ≡ put o (at + 4) (code ∷ []) = f ∙ put-fits o (at + 4) (code ∷ []) (omega arith) in
    let m : length p ≡ length out = ap length two ∙ put-length o (at + 4) (code ∷ []) (omega arith) ∙ l in
    let three : q ≡ put p (at + 5) (little_endian 2 value) = g ∙ put-fits p (at + 5) (little_endian 2 value) (omega arith) in
    let behind : p ≡ put out at (head ++ (code ∷ [])) = two ∙ ap (λ (x : List ℕ). put x (at + 4) (code ∷ [])) one ∙ put_next out at head (code ∷ []) (omega arith) in
    three ∙ ap (λ (x : List ℕ). put x (at + 5) (little_endian 2 value)) behind ∙ put_next out at (head ++ (code ∷ [])) (little_endian 2 value) (omega arith)

-- ---- the loop of `put_records`: the records still to be put, from the next code on

module _ (values ws out : List ℕ) (at from : ℕ) where
  -- they fit into the output
  abbrev pub Room : Type 0
  Room = at + record_size * length (codes_from (member ws) from) ≤ length out

  -- the next one fits
  pub put-room : (k : ℕ) → Found (member ws) from k → Room → at + record_size ≤ length out
  put-room k f h = omega (arith, ap length f.codes)

  -- the record of the next code, and then those behind it
  put-code : (k : ℕ) → Found (member ws) from k → Room
      → put (put out at (value_record k (get_or values k 0))) (at + record_size) (records_of values (codes_from (member ws) (k + 1))) ≡ put out at (records_of values (codes_from (member ws) from))
  unfolding records_of
  put-code k f h =
      put_next out at (value_record k (get_or values k 0)) (records_of values (codes_from (member ws) (k + 1))) (put-room k f h)
      ∙ ap (λ (cs : List ℕ). put out at (records_of values cs)) (sym f.codes)

  -- none is left
  pub put-end : (end : List ℕ) → codes_from (member ws) from ≡ [] → put out at (records_of values (codes_from (member ws) from)) ≡ end → out ≡ end
  unfolding records_of
  put-end end e h = sym (ap (λ (cs : List ℕ). put out at (records_of values cs)) e ∙ put-none out at) ∙ h

-- what holds after a turn, of the number n behind the code and of the output afterwards
pub put-turn : (values ws out start end after : List ℕ) (at from k i n : ℕ) → Found (member ws) from k → i ≡ k → n ≡ k
    → after ≡ put out at (value_record k (get_or values i 0)) → Room values ws out at from → length out ≡ length start
    → put out at (records_of values (codes_from (member ws) from)) ≡ end
    → (n + 1 ≤ all_codes) × Room values ws after (at + record_size) (n + 1) × (length after ≡ length start)
    × (put after (at + record_size) (records_of values (codes_from (member ws) (n + 1))) ≡ end)
put-turn values ws out start end after at from k i n f e g a h l q =
    let same : length (put out at (value_record k (get_or values k 0))) ≡ length out = put-length out at (value_record k (get_or values k 0)) (put-room values ws out at from k f h) in
    rw (a, e, g) (omega (arith, f.high), omega (arith, ap length f.codes), same ∙ l, put-code values ws out at from k f h ∙ q)

-- ---- what `write` comes to

-- the profile has 7 bytes for each code that the set counts
pub profile_size : (s : Settings) (ws : List ℕ) (n : ℕ) → codes_from (member ws) 0 ≡ profile_codes s → n ≡ count_of ws
    → (length (profile_of s) ≡ n * 7) × (record_size * length (codes_from (member ws) 0) ≡ n * 7)
profile_size s ws n e f =
    let l : length (profile_codes s) ≡ n = ap length (sym e) ∙ set-count ws ∙ sym f in
    let k : length (codes_from (member ws) 0) ≡ n = set-count ws ∙ sym f in
    (omega (arith, records_length s.saved (profile_codes s)), omega arith)

module _ (s : Settings) (out : List ℕ) where
  pub write_refused : length out < length (profile_of s) → record { result = record { answer = wrong_size; len = 0 }; output = out } ≡ write_profile s out
  unfolding write_profile
  write_refused h = rw (lt-leb (length (profile_of s)) (length out) h)

  pub write_done : (n : ℕ) (after : List ℕ) → n ≡ length (profile_of s) → n ≤ length out → after ≡ put out 0 (profile_of s)
      → record { result = record { answer = done; len = n }; output = after } ≡ write_profile s out
  unfolding write_profile
  write_done n after e h f = rw (le-leb (length (profile_of s)) (length out) (omega arith), e, f, put-over (profile_of s) out)
