-- Lines of numbers, one behind the other.
use mathlib.Core.Path.{◌≡◌, refl, sym, ap, ap₂, subst, ◌∙◌}
use mathlib.Core.List.{List, [], ◌∷◌, ◌++◌, append_assoc}
use Prim.Native.Nat.{ℕ, suc, ◌+◌, ◌*◌, ◌≤◌, ◌<◌}
use native.Mathlib.Omega.{arith}
use lib.ListN.{length, get_or, take, length-append, length-map, get_or-map}
use lib.Seq.{take-suc, take_all}
use Rattle.buffers.specs.Buffers.{put, put_whole}
use Rattle.buffers.proofs.Puts.{put-none, put-fits, put_next, put-whole_then}
use Rattle.call_list_rules.specs.CallList.{check_list, no_entry, entry_of}
use Rattle.call_list_rules.specs.Statements.{IsList, tokens_of}
use Rattle.call_list_rules.specs.declared.Checked.{Checked}
use Rattle.call_list_rules.specs.declared.Entry.{Entry}
use Rattle.call_list_rules.proofs.Theorems.{accepts-exactly, entries-given, refused_none}
use Rattle.numerals.specs.Numerals.{Decimal}
use Rattle.gate_check.specs.Tokens.{Lines, none, line}
use Rattle.gate_check.specs.Parts.{line_room, PutsLine, PutsTokens}

-- ---- a line

-- the number is put, and the line end behind it
pub line-put : (before number one two : List ℕ) (at end : ℕ) → at + line_room ≤ length before → length number < line_room → one ≡ put_whole before at number
    → end ≡ at + length number → two ≡ put_whole one end (0x0A ∷ []) → two ≡ put before at (number ++ (0x0A ∷ []))
line-put before number one two at end room short e q f =
    put-whole_then before at number (0x0A ∷ []) one two end (e ∙ put-fits before at number (omega arith)) q f (omega arith)

-- ---- lines

-- a line behind others
lines_next : (ns text : List ℕ) (n : ℕ) (number : List ℕ) → Lines ns text → Decimal n number → Lines (ns ++ (n ∷ [])) (text ++ (number ++ (0x0A ∷ [])))
lines_next [] text n number none d = line d none
lines_next (m ∷ ns) text n number (line {number = first} {text = rest} c l) d =
    subst (Lines (m ∷ (ns ++ (n ∷ [])))) (sym (append_assoc first (0x0A ∷ rest) (number ++ (0x0A ∷ [])))) (line c (lines_next ns rest n number l d))

-- the first k lines of any list that s is
abbrev pub LinesOf : (s : List ℕ) (k : ℕ) (text : List ℕ) → Type 0
LinesOf s k text = (es : List Entry) → IsList es s → Lines (take k (tokens_of es)) text

-- how many tokens there are
tokens-counted : (es : List Entry) (s : List ℕ) → IsList es s → length (tokens_of es) ≡ (check_list s).entries
tokens-counted es s x = length-map es (λ (e : Entry). e.token) ∙ sym (ap (λ (c : Checked). c.entries) (accepts-exactly.every es s x))

-- the text so far: the lines of the first k tokens, put at its start
pub record SoFar (s before : List ℕ) (k : ℕ) (now : List ℕ) (at : ℕ) : Type 0 where
  pub text : List ℕ
  pub lines : LinesOf s k text
  pub there : now ≡ put before 0 text
  pub size : at ≡ length text
  pub short : at ≤ line_room * k

pub none_so_far : (s before : List ℕ) → SoFar s before 0 before 0
none_so_far s before = record { text = []; lines = λ es x. none; there = sym (put-none before 0); size = refl; short = omega arith }

-- the token of an entry
token-is : (es : List Entry) (s : List ℕ) → IsList es s → (k : ℕ) (entry : Entry) → entry ≡ entry_of s k → entry.token ≡ get_or (tokens_of es) k 0
token-is es s x k entry e = ap (λ (y : Entry). y.token) (e ∙ entries-given es s x k) ∙ sym (get_or-map (λ (y : Entry). y.token) es k no_entry)

-- one more line
lines_more : (s text number : List ℕ) (k : ℕ) (entry : Entry) → k < (check_list s).entries → entry ≡ entry_of s k → Decimal entry.token number → LinesOf s k text
    → LinesOf s (k + 1) (text ++ (number ++ (0x0A ∷ [])))
lines_more s text number k entry l e d lines es x =
    let ts = tokens_of es in
    let inside : k < length ts = omega (arith, tokens-counted es s x) in
    let q : suc k ≡ k + 1 = omega arith in
    let numbers : take k ts ++ (entry.token ∷ []) ≡ take (k + 1) ts =
    ap (λ (n : ℕ). take k ts ++ (n ∷ [])) (token-is es s x k entry e) ∙ sym (take-suc ts k 0 inside) ∙ ap (λ (n : ℕ). take n ts) q in
    subst (λ (t : List ℕ). Lines t (text ++ (number ++ (0x0A ∷ [])))) numbers (lines_next (take k ts) text entry.token number (lines es x) d)

pub line_so_far : (s before now after : List ℕ) (k at end : ℕ) (entry : Entry) → k < (check_list s).entries → line_room * (k + 1) ≤ length before → entry ≡ entry_of s k
    → PutsLine entry.token now at after end → SoFar s before k now at → SoFar s before (k + 1) after end
line_so_far s before now after k at end entry l room e p far =
    let written = p.number ++ (0x0A ∷ []) in
    let size = far.size in
    let little = p.short in
    let close = far.short in
    let z : at ≡ 0 + length far.text = omega arith in
    record {
      text = far.text ++ written;
      lines = lines_more s far.text p.number k entry l e p.decimal far.lines;
      there = p.there ∙ ap₂ (λ (t : List ℕ) (i : ℕ). put t i written) far.there z ∙ put_next before 0 far.text written (omega arith);
      size = omega (arith, p.behind, length-append far.text written, length-append p.number (0x0A ∷ []));
      short = omega (arith, p.behind);
    }

-- all lines, or none
pub all_put : (s before now : List ℕ) (k at : ℕ) → k ≡ (check_list s).entries → SoFar s before k now at → PutsTokens s before now at
all_put s before now k at e far = record { text = far.text; written = record { tokens = all; nothing = refused }; there = far.there; counted = far.size }
  where
    all : (es : List Entry) → IsList es s → Lines (tokens_of es) far.text
    all es x = subst (λ (t : List ℕ). Lines t far.text) (take_all k (tokens_of es) (omega (arith, tokens-counted es s x))) (far.lines es x)

    nil : (t : List ℕ) → length t ≡ 0 → t ≡ []
    nil [] h = refl
    nil (y ∷ t) h = absurd (omega arith)

    refused : ((check_list s).answer ≡ 0 → ⊥) → far.text ≡ []
    refused z = let size = far.size in let short = far.short in nil far.text (omega (arith, refused_none s z))
