-- The laws of a transfer's messages: what is read of a fragment, what a refusal's number can be, and that requests for different offsets differ.
-- Assumes nothing.
use Prim.Native.Nat.{ℕ, ◌+◌, ◌≤◌, ◌<◌}
use mathlib.Core.Path.{◌≡◌, refl, sym, ap, ◌∙◌, subst}
use mathlib.Core.List.{List, ◌++◌}
use mathlib.Core.Bool.{false}
use native.Mathlib.Omega.{arith}
use native.Mathlib.Nat.{div-add-mod'}
use lib.ListN.{length, get_or, drop, take-append-drop}
use lib.Dec.{eqb}
use borrow.Author.Tests.{ne_eqb}
use Rattle.checksum.specs.Bytes as bytes
use Rattle.checksum.specs.Bytes.{Bytes}
use Rattle.message_rules.specs.Read.{Read, ok, refused}
use Rattle.message_rules.specs.Body as words
use Rattle.message_rules.specs.Frame.{plain, frame, body_length}
use Rattle.message_rules.specs.Limits.{most_fragment}
use Rattle.message_rules.specs.Message.{Reply, value, timing_reply, text_fragment, table_fragment, Valid, replies, to_host}
use Rattle.message_rules.proofs.RoundTrip.{replies_round}
use Rattle.message_rules.proofs.Order.{replies_range}
use Rattle.message_rules.specs.declared.TextKind.{TextKind}
use Rattle.message_rules.specs.declared.TextKind.TheVariants.{Capabilities, Table}
use Rattle.transfer_rules.specs.Fragment.{Fragment, request_message, fragment_for, fragment_message, read_reply, fragment_in, data_in}
use Rattle.transfer_rules.specs.Exchange.{Begins}

-- ---- fragments

pub fragment-valid : (k : TextKind) (o : ℕ) (d : List ℕ) → o < 65536 → length d ≤ most_fragment → Bytes d → Valid replies (fragment_for k o d)
fragment-valid Capabilities o d h l b = record { bytes_count = refl; words_count = refl; rest_count = l; bytes_fit = bytes.none; words_fit = words.more h words.none; rest_fit = b; ruled = refl }
fragment-valid Table o d h l b = record { bytes_count = refl; words_count = refl; rest_count = l; bytes_fit = bytes.none; words_fit = words.more h words.none; rest_fit = b; ruled = refl }

-- a fragment is read back, whatever follows it
pub read-fragment : (k : TextKind) (o : ℕ) (d rest : List ℕ) → Valid replies (fragment_for k o d) → read_reply (fragment_message k o d ++ rest) ≡ ok (fragment_for k o d)
unfolding fragment_message
read-fragment k o d rest v = replies_round.there to_host (fragment_for k o d) rest tt v

-- what is read as a fragment is valid, and begins with that fragment's message
pub read-valid : (k : TextKind) (o : ℕ) (d s : List ℕ) → Bytes s → read_reply s ≡ ok (fragment_for k o d) → Valid replies (fragment_for k o d)
read-valid k o d s b e = replies_round.valid to_host s (fragment_for k o d) b e

pub read-begins : (k : TextKind) (o : ℕ) (d s : List ℕ) → Bytes s → read_reply s ≡ ok (fragment_for k o d) → Begins s (fragment_message k o d)
unfolding fragment_message
read-begins k o d s b e =
    let n : ℕ = body_length s + 3 in
    (drop n s, sym (take-append-drop n s) ∙ ap (λ (t : List ℕ). t ++ drop n s) (sym (replies_round.back to_host s (fragment_for k o d) b e)))

-- ---- which fragment a reply is

pub fragment-in : (k : TextKind) (o : ℕ) (d : List ℕ) → fragment_in k (fragment_for k o d) ≡ ok (record { offset = o; bytes = d })
fragment-in Capabilities o d = refl
fragment-in Table o d = refl

pub data-in : (k : TextKind) (o : ℕ) (d : List ℕ) → data_in (ok (fragment_for k o d)) ≡ d
data-in Capabilities o d = refl
data-in Table o d = refl

pub same-fragment : (f : Fragment) (o : ℕ) (d : List ℕ) → ok (record { offset = o; bytes = d }) ≡ ok f → (o ≡ f.offset) × (d ≡ f.bytes)
same-fragment f o d e = let z : record { offset = o; bytes = d } ≡ f = cc in (ap (λ (x : Fragment). x.offset) z, ap (λ (x : Fragment). x.bytes) z)

-- a refusal is no reading
pub never_read : {A M : Type 0} {n : ℕ} {m : M} → refused n ≡ ok m → A
never_read e = let z : ◌≡◌ {A = ℕ} 0 1 = cc in absurd (omega arith)

pub fragment-of : (k : TextKind) (m : Reply) (f : Fragment) → fragment_in k m ≡ ok f → m ≡ fragment_for k f.offset f.bytes
fragment-of k (value r c t m p) f e = never_read e
fragment-of k (timing_reply s h v) f e = never_read e
fragment-of Capabilities (text_fragment o d) f e = let z = same-fragment f o d e in cc
fragment-of Table (text_fragment o d) f e = never_read e
fragment-of Capabilities (table_fragment o d) f e = never_read e
fragment-of Table (table_fragment o d) f e = let z = same-fragment f o d e in cc

-- ---- refusals of the reader

-- none is 0, 1 or 16
pub record OwnNumber (n : ℕ) : Type 0 where
  pub not_done : eqb n 0 ≡ false
  pub not_size : eqb n 1 ≡ false
  pub not_closed : eqb n 16 ≡ false

pub read-refuses : (s : List ℕ) (n : ℕ) → read_reply s ≡ refused n → OwnNumber n
read-refuses s n e =
    let r = replies_range to_host s n e in
    record { not_done = ne_eqb n 0 (λ h. omega (arith, r.0, h)); not_size = ne_eqb n 1 (λ h. omega (arith, r.0, h)); not_closed = ne_eqb n 16 (λ h. omega (arith, r.1, h)) }

pub not_wanted_own : OwnNumber 10
not_wanted_own = record { not_done = refl; not_size = refl; not_closed = refl }

-- nor is that of a reply of another kind
refusal_own : (n : ℕ) → ◌≡◌ {A = Read Fragment} (refused 10) (refused n) → OwnNumber n
refusal_own n e = let z : 10 ≡ n = cc in subst OwnNumber z not_wanted_own

pub kind-refuses : (k : TextKind) (m : Reply) (n : ℕ) → fragment_in k m ≡ refused n → OwnNumber n
kind-refuses k (value r c t m p) n e = refusal_own n e
kind-refuses k (timing_reply s h v) n e = refusal_own n e
kind-refuses Capabilities (text_fragment o d) n e = never_read (sym e)
kind-refuses Table (text_fragment o d) n e = refusal_own n e
kind-refuses Capabilities (table_fragment o d) n e = refusal_own n e
kind-refuses Table (table_fragment o d) n e = never_read (sym e)

-- ---- requests

-- requests for different offsets differ
pub request_injective : (k : TextKind) (p q : ℕ) → request_message k p ≡ request_message k q → p ≡ q
unfolding request_message frame plain
request_injective Capabilities p q h =
    omega (arith, ap (λ (s : List ℕ). get_or s 3 0) h, ap (λ (s : List ℕ). get_or s 4 0) h, div-add-mod' p 256, div-add-mod' q 256)
request_injective Table p q h =
    omega (arith, ap (λ (s : List ℕ). get_or s 4 0) h, ap (λ (s : List ℕ). get_or s 5 0) h, div-add-mod' p 256, div-add-mod' q 256)
