-- What `fold` over a slice returns, where its closure computes a function of what it has and the next element.
use mathlib.Core.Path.{◌≡◌, refl, sym, ap, ◌∙◌}
use mathlib.Core.List.{List, [], ◌∷◌}
use denote.Param.Members.{Mut}
use denote.Ref.{Bor}
use Rattle.std.specs.Fn.{Called}
use Rattle.std.specs.Iterator.{Drains}
use Rattle.std.specs.List.{FoldsTo, fold}
use Rattle.std.proofs.Common.{Iter}
use Rattle.std.proofs.lemmas.Fn.{fold_over, fronts}
use Rattle.std.proofs.lemmas.Iterator.{YieldsList-from_slice}
use Rattle.std.proofs.lemmas.List.Sums.{fold-append}

pub fold_is : {A C F : Type 0} (h : C → A → C) {g : Mut F (C × (Bor A × Unit {0})) C} {f : F}
    → ((sum : C) (x : Bor A) (next : C) (f' : F) → Called g f (sum, (x, tt)) next f' → (next ≡ h sum x.now) × (f' ≡ f))
    → (s : Iter A) (all : List A) (first r : C) → s.rest.now ≡ all
    → (xs : List (Bor A)) × (f' : F) × Drains fronts s xs × FoldsTo {P = F × C} (λ p x q. Called g p.0 (p.1, (x, tt)) q.1 q.0) (f, first) xs (f', r)
    → r ≡ fold h first all
fold_is h {g} {f} step s all first r e ran =
    fold_over fronts (λ x. x.now) g (λ seen sum. sum ≡ fold h first seen) f
    (λ seen sum x next f' taken call.
    let k = step sum x next f' call in (k.0 ∙ ap (λ n. h n x.now) taken ∙ sym (fold-append h first seen (x.now ∷ [])), k.1))
    s all first r (YieldsList-from_slice {s = s} all e).runs refl ran
