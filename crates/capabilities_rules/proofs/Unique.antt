-- A text has one reading: its words, their places, lengths and groups are fixed by its bytes.
use Prim.Native.Nat.{ℕ, ◌≤◌}
use mathlib.Core.Path.{◌≡◌, refl, sym, ap, ap₂, ◌∙◌, subst}
use mathlib.Core.Bool.{Bool, cond}
use mathlib.Core.List.{List, ◌∷◌, ◌++◌, append_assoc}
use native.Mathlib.Omega.{arith}
use lib.Dec.{leb}
use lib.ListN.{length, get_or, take, drop}
use lib.Seq.{drop-append_seam, take-append_seam}
use borrow.Author.Tests.{le-leb}
use Rattle.capabilities_rules.specs.Machine.{kind_of}
use Rattle.capabilities_rules.specs.Nodes.{letters, opens}
use Rattle.capabilities_rules.specs.Grammar.{Letters, last, more, Spaces, no-space, one-space, Apart, Items, word, group, ListAt, ends, spaced, worded, grouped, Text, text}
use Rattle.capabilities_rules.proofs.Walk.{letters_all, opens-list, opens-spaces, apart_close, apart_spaces, behind}

-- what a list's bytes, with the ")" after it, show at the front: the byte, or for a word whether it has a group
shape : List ℕ → ℕ
shape s = cond (leb 1 (letters s)) (opens (drop (letters s) s)) (get_or s 0 0)

form : {at : ℕ} {xs : Items} {t : List ℕ} → ListAt at xs t → ℕ
form ends = 0x29
form (spaced r) = 0x20
form (worded lw a r) = 0
form (grouped lw sg q r) = 1

some_letter : {w : List ℕ} → Letters w → 1 ≤ length w
some_letter (last l) = omega arith
some_letter (more l lw) = omega arith

shape_word : {w : List ℕ} (r : List ℕ) → Letters w → Apart r → shape (w ++ r) ≡ opens r
unfolding shape
shape_word {w} r lw a =
    let e : letters (w ++ r) ≡ length w = letters_all r lw a in
    ap (λ (k : ℕ). cond (leb 1 k) (opens (drop k (w ++ r))) (get_or (w ++ r) 0 0)) e
    ∙ ap (λ (t : Bool). cond t (opens (drop (length w) (w ++ r))) (get_or (w ++ r) 0 0)) (le-leb 1 (length w) (some_letter lw))
    ∙ ap opens (drop-append_seam w r)

shape_form : {at : ℕ} {xs : Items} {t : List ℕ} (s : List ℕ) (l : ListAt at xs t) → shape (t ++ 0x29 ∷ s) ≡ form l
unfolding shape form letters kind_of
shape_form s ends = refl
shape_form s (spaced r) = refl
shape_form s (worded {w = w} {s = t} lw a r) = ap shape (append_assoc w t (0x29 ∷ s)) ∙ shape_word (t ++ 0x29 ∷ s) lw (apart_close t s a) ∙ opens-list s r
shape_form s (grouped {w = w} {g = g} {t = t} {s = u} lw sg q r) =
    ap shape (sym (behind w g t u s)) ∙ shape_word (g ++ 0x28 ∷ (t ++ 0x29 ∷ (u ++ 0x29 ∷ s))) lw (apart_spaces (t ++ 0x29 ∷ (u ++ 0x29 ∷ s)) sg) ∙ opens-spaces (t ++ 0x29 ∷ (u ++ 0x29 ∷ s)) sg

same_form : {at : ℕ} {xs ys : Items} {t u : List ℕ} (p : ListAt at xs t) (q : ListAt at ys u) (s r : List ℕ) → t ++ 0x29 ∷ s ≡ u ++ 0x29 ∷ r → form p ≡ form q
same_form p q s r e = sym (shape_form s p) ∙ ap shape e ∙ shape_form r q

split-words : {w w' : List ℕ} (x x' : List ℕ) → Letters w → Letters w' → Apart x → Apart x' → w ++ x ≡ w' ++ x' → (w ≡ w') × (x ≡ x')
split-words {w} {w'} x x' lw lw' a a' e =
    let n : length w ≡ length w' = sym (letters_all x lw a) ∙ ap letters e ∙ letters_all x' lw' a' in (
      sym (take-append_seam w x) ∙ ap₂ (λ (k : ℕ) (l : List ℕ). take k l) n e ∙ take-append_seam w' x',
      sym (drop-append_seam w x) ∙ ap₂ (λ (k : ℕ) (l : List ℕ). drop k l) n e ∙ drop-append_seam w' x',
    )

split-spaces : {g g' : List ℕ} (x x' : List ℕ) → Spaces g → Spaces g' → g ++ 0x28 ∷ x ≡ g' ++ 0x28 ∷ x' → (g ≡ g') × (x ≡ x')
split-spaces x x' no-space no-space e = (refl, ap (drop 1) e)
split-spaces x x' no-space (one-space sg) e = let z = ap (λ (l : List ℕ). get_or l 0 0) e in absurd (omega arith)
split-spaces x x' (one-space sg) no-space e = let z = ap (λ (l : List ℕ). get_or l 0 0) e in absurd (omega arith)
split-spaces x x' (one-space sg) (one-space sg') e = let r = split-spaces x x' sg sg' (ap (drop 1) e) in (ap (λ (l : List ℕ). 0x20 ∷ l) r.0, r.1)

after_close : (t t' x x' : List ℕ) → t ≡ t' → t ++ 0x29 ∷ x ≡ t' ++ 0x29 ∷ x' → x ≡ x'
after_close t t' x x' f e =
    ap (drop 1) (sym (drop-append_seam t (0x29 ∷ x)) ∙ ap₂ (λ (k : ℕ) (l : List ℕ). drop k l) (ap length f) e ∙ drop-append_seam t' (0x29 ∷ x'))

moving : {at at' : ℕ} {xs : Items} {s : List ℕ} → at ≡ at' → ListAt at xs s → ListAt at' xs s
moving {xs = xs} {s = s} e r = subst (λ (a : ℕ). ListAt a xs s) e r

pub unique-list : {at : ℕ} {xs ys : Items} {t u : List ℕ} → ListAt at xs t → ListAt at ys u → (s r : List ℕ) → t ++ 0x29 ∷ s ≡ u ++ 0x29 ∷ r → (xs ≡ ys) × (t ≡ u)
unfolding form
unique-list ends ends s r e = (refl, refl)
unique-list (spaced p) (spaced q) s r e = let i = unique-list p q s r (ap (drop 1) e) in (i.0, ap (λ (l : List ℕ). 0x20 ∷ l) i.1)
unique-list (worded {at = at} {w = w} {s = t} {xs = xs} lw a p) (worded {w = w'} {s = t'} {xs = xs'} lw' a' p') s r e =
    let k = split-words (t ++ 0x29 ∷ s) (t' ++ 0x29 ∷ r) lw lw' (apart_close t s a) (apart_close t' r a') (sym (append_assoc w t (0x29 ∷ s)) ∙ e ∙ append_assoc w' t' (0x29 ∷ r)) in
    let n : length w ≡ length w' = ap length k.0 in
    let i = unique-list p (moving (omega arith) p') s r k.1 in
    (ap₂ (λ (j : ℕ) (l : Items). word at j l) n i.0, ap₂ (λ (x y : List ℕ). x ++ y) k.0 i.1)
unique-list (grouped {at = at} {w = w} {g = g} {t = t} {s = u} {ys = ys} {xs = xs} lw sg q p) (grouped {w = w'} {g = g'} {t = t'} {s = u'} {ys = ys'} {xs = xs'} lw' sg' q' p') s r e =
    let x : List ℕ = t ++ 0x29 ∷ (u ++ 0x29 ∷ s) in
    let x' : List ℕ = t' ++ 0x29 ∷ (u' ++ 0x29 ∷ r) in
    let k = split-words (g ++ 0x28 ∷ x) (g' ++ 0x28 ∷ x') lw lw' (apart_spaces x sg) (apart_spaces x' sg') (behind w g t u s ∙ e ∙ sym (behind w' g' t' u' r)) in
    let h = split-spaces x x' sg sg' k.1 in
    let n : length w ≡ length w' = ap length k.0 in
    let o : length g ≡ length g' = ap length h.0 in
    let i = unique-list q (moving (omega arith) q') (u ++ 0x29 ∷ s) (u' ++ 0x29 ∷ r) h.1 in
    let v : length t ≡ length t' = ap length i.1 in
    let j = unique-list p (moving (omega arith) p') s r (after_close t t' (u ++ 0x29 ∷ s) (u' ++ 0x29 ∷ r) i.1 h.1) in (
      ap₂ (λ (k : ℕ) (l : Items). group at k l xs) n i.0 ∙ ap (group at (length w') ys') j.0,
      ap₂ (λ (a b : List ℕ). a ++ (b ++ 0x28 ∷ (t ++ 0x29 ∷ u))) k.0 h.0 ∙ ap₂ (λ (a b : List ℕ). w' ++ (g' ++ 0x28 ∷ (a ++ 0x29 ∷ b))) i.1 j.1,
    )
unique-list (ends {at = at}) (spaced p') s r e = let z : ◌≡◌ {A = ℕ} 0x29 0x20 = same_form (ends {at = at}) (spaced {at = at} p') s r e in absurd (omega arith)
unique-list (ends {at = at}) (worded lw' a' p') s r e = let z : ◌≡◌ {A = ℕ} 0x29 0 = same_form (ends {at = at}) (worded {at = at} lw' a' p') s r e in absurd (omega arith)
unique-list (ends {at = at}) (grouped lw' sg' q' p') s r e = let z : ◌≡◌ {A = ℕ} 0x29 1 = same_form (ends {at = at}) (grouped {at = at} lw' sg' q' p') s r e in absurd (omega arith)
unique-list (spaced {at = at} p) ends s r e = let z : ◌≡◌ {A = ℕ} 0x20 0x29 = same_form (spaced {at = at} p) (ends {at = at}) s r e in absurd (omega arith)
unique-list (spaced {at = at} p) (worded lw' a' p') s r e = let z : ◌≡◌ {A = ℕ} 0x20 0 = same_form (spaced {at = at} p) (worded {at = at} lw' a' p') s r e in absurd (omega arith)
unique-list (spaced {at = at} p) (grouped lw' sg' q' p') s r e = let z : ◌≡◌ {A = ℕ} 0x20 1 = same_form (spaced {at = at} p) (grouped {at = at} lw' sg' q' p') s r e in absurd (omega arith)
unique-list (worded {at = at} lw a p) ends s r e = let z : ◌≡◌ {A = ℕ} 0 0x29 = same_form (worded {at = at} lw a p) (ends {at = at}) s r e in absurd (omega arith)
unique-list (worded {at = at} lw a p) (spaced p') s r e = let z : ◌≡◌ {A = ℕ} 0 0x20 = same_form (worded {at = at} lw a p) (spaced {at = at} p') s r e in absurd (omega arith)
unique-list (worded {at = at} lw a p) (grouped lw' sg' q' p') s r e = let z : ◌≡◌ {A = ℕ} 0 1 = same_form (worded {at = at} lw a p) (grouped {at = at} lw' sg' q' p') s r e in absurd (omega arith)
unique-list (grouped {at = at} lw sg q p) ends s r e = let z : ◌≡◌ {A = ℕ} 1 0x29 = same_form (grouped {at = at} lw sg q p) (ends {at = at}) s r e in absurd (omega arith)
unique-list (grouped {at = at} lw sg q p) (spaced p') s r e = let z : ◌≡◌ {A = ℕ} 1 0x20 = same_form (grouped {at = at} lw sg q p) (spaced {at = at} p') s r e in absurd (omega arith)
unique-list (grouped {at = at} lw sg q p) (worded lw' a' p') s r e = let z : ◌≡◌ {A = ℕ} 1 0 = same_form (grouped {at = at} lw sg q p) (worded {at = at} lw' a' p') s r e in absurd (omega arith)

pub unique : {xs ys : Items} {s : List ℕ} → Text xs s → Text ys s → xs ≡ ys
unique {s = s} x y = go x y refl
  where
    go : {xs ys : Items} {s s' : List ℕ} → Text xs s → Text ys s' → s ≡ s' → xs ≡ ys
    go (text {z = z} p zs) (text {z = y} q ys) e = (unique-list p q z y (ap (drop 1) e)).0
