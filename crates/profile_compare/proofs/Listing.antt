-- The loops that list: each column of the list at its place in an array.
use mathlib.Core.Path.{◌≡◌, refl, sym, ap, ap₂, subst, ◌∙◌}
use mathlib.Core.List.{List, [], ◌∷◌, ◌++◌, map, map-append}
use Prim.Native.Nat.{ℕ, ◌+◌, ◌≤◌, ◌<◌}
use native.Mathlib.Omega.{arith}
use lib.ListN.{length, set, length-set, length-map, length-append}
use Rattle.buffers.specs.Buffers.{put}
use Rattle.buffers.proofs.Puts.{put-none, put-over, put_sets, put_next}
use Rattle.profile_form_rules.specs.declared.Setting.{Setting}
use Rattle.profile_compare_rules.specs.Compare.{absent, Difference, Room, lent, room_in, listed_in}
use Rattle.profile_compare.specs.Parts.{rest_in}
use Rattle.profile_compare.proofs.Merging.{first_only, second_only}

-- ---- a column of the list

-- of an array as it was, n entries are written, and with those still to come it would be as said
pub record Column {A : Type 0} (f : A → ℕ) (all out₀ out : List ℕ) (n : ℕ) (rest : List A) : Type 0 where
  pub size : length out ≡ length out₀
  pub there : put out n (map f rest) ≡ all

module _ {A : Type 0} (f : A → ℕ) (all out₀ out : List ℕ) (n : ℕ) (rest : List A) (c : Column f all out₀ out n rest) where
  pub column_ends : rest ≡ [] → out ≡ all
  column_ends e = sym (put-none out n) ∙ ap (λ (xs : List A). put out n (map f xs)) (sym e) ∙ c.there

  pub column_on : (x : A) (left : List A) → rest ≡ x ∷ left → n < length out₀ → Column f all out₀ (set out n (f x)) (n + 1) left
  column_on x left e l =
      let size = c.size in
      record {
        size = length-set out n (f x) ∙ c.size;
        there = ap (λ (o : List ℕ). put o (n + 1) (map f left)) (put_sets out n (f x ∷ []) (omega arith))
            ∙ put_next out n (f x ∷ []) (map f left) (omega arith)
            ∙ ap (λ (xs : List A). put out n (map f xs)) (sym e)
            ∙ c.there;
      }

-- ---- the three columns

-- n items are listed, and the others are still to come: with these columns, what was there would be all of it
pub record Columns {A : Type 0} (code first second : A → ℕ) (total : ℕ) (all before now : Room) (n : ℕ) (rest : List A) : Type 0 where
  pub counted : n + length rest ≡ total
  pub codes_in : Column code all.codes before.codes now.codes n rest
  pub firsts_in : Column first all.first before.first now.first n rest
  pub seconds_in : Column second all.second before.second now.second n rest

module _ {A : Type 0} (code first second : A → ℕ) (total : ℕ) (all before now : Room) (n : ℕ) (rest : List A) (k : Columns code first second total all before now n rest) where
  -- the next item is listed
  module _ (room : total ≤ room_in before) (x : A) (left : List A) (e : rest ≡ x ∷ left) where
    pub inside : (n < length now.codes) × (n < length now.first) × (n < length now.second)
    inside = let l = ap length e in
        (omega (arith, k.counted, k.codes_in.size), omega (arith, k.counted, k.firsts_in.size), omega (arith, k.counted, k.seconds_in.size))

    pub columns_on : Columns code first second total all before
        (lent (set now.codes n (code x)) (set now.first n (first x)) (set now.second n (second x))) (n + 1) left
    columns_on = let l = ap length e in let m = k.counted in record {
      counted = omega arith;
      codes_in = column_on code all.codes before.codes now.codes n rest k.codes_in x left e (omega arith);
      firsts_in = column_on first all.first before.first now.first n rest k.firsts_in x left e (omega arith);
      seconds_in = column_on second all.second before.second now.second n rest k.seconds_in x left e (omega arith);
    }

  -- what is still to come is the same
  pub columns_same : (left : List A) → rest ≡ left → Columns code first second total all before now n left
  columns_same left e = subst (Columns code first second total all before now n) e k

  -- none is
  pub columns_end : rest ≡ [] → (n ≡ total) × (now ≡ all)
  columns_end e =
      let c = column_ends code all.codes before.codes now.codes n rest k.codes_in e in
      let f = column_ends first all.first before.first now.first n rest k.firsts_in e in
      let s = column_ends second all.second before.second now.second n rest k.seconds_in e in
      let l = ap length e in
      let same : lent now.codes now.first now.second ≡ lent all.codes all.first all.second = cc (c, f, s) in
      (omega (arith, k.counted), same)

-- ---- the list

abbrev pub Listing : (ds : List Difference) (before now : Room) (n : ℕ) (rest : List Difference) → Type 0
Listing ds before now n rest = Columns (λ (d : Difference). d.code) (λ (d : Difference). d.first) (λ (d : Difference). d.second) (length ds) (listed_in ds before) before now n rest

pub listing_none : (ds : List Difference) (r : Room) → Listing ds r r 0 ds
listing_none ds r = record {
  counted = omega arith;
  codes_in = record { size = refl; there = put-over (map (λ (d : Difference). d.code) ds) r.codes };
  firsts_in = record { size = refl; there = put-over (map (λ (d : Difference). d.first) ds) r.first };
  seconds_in = record { size = refl; there = put-over (map (λ (d : Difference). d.second) ds) r.second };
}

-- ---- what is left of one profile

abbrev pub Resting : (es : List Setting) (entry : ℕ) (before now : Room) (n : ℕ) (rest : List Setting) → Type 0
Resting es entry before now n rest = Columns (λ (e : Setting). e.code) (λ (e : Setting). e.value) (λ (e : Setting). absent) (entry + length es) (rest_in entry es before) before now n rest

pub resting_none : (es : List Setting) (entry : ℕ) (r : Room) → Resting es entry r r entry es
resting_none es entry r = record { counted = refl; codes_in = record { size = refl; there = refl }; firsts_in = record { size = refl; there = refl }; seconds_in = record { size = refl; there = refl } }

-- the columns of what is left of the first profile, then of the second, make the column whole
module _ (es fs : List Setting) (n : ℕ) where
  rest_column : (f : Difference → ℕ) (g h : Setting → ℕ) → ((x : Setting) → f (first_only x) ≡ g x) → ((x : Setting) → f (second_only x) ≡ h x)
      → map f (map first_only es ++ map second_only fs) ≡ map g es ++ map h fs
  rest_column f g h p q =
      map-append f (map first_only es) (map second_only fs) ∙ ap₂ (λ (x y : List ℕ). x ++ y) (column first_only g p es) (column second_only h q fs)
    where
      column : (w : Setting → Difference) (v : Setting → ℕ) → ((x : Setting) → f (w x) ≡ v x) → (gs : List Setting) → map f (map w gs) ≡ map v gs
      column w v z [] = refl
      column w v z (x ∷ gs) = ap₂ (λ (n : ℕ) (ns : List ℕ). n ∷ ns) (z x) (column w v z gs)

  rest_put : (f : Difference → ℕ) (g h : Setting → ℕ) (all out₀ out : List ℕ) → ((x : Setting) → f (first_only x) ≡ g x) → ((x : Setting) → f (second_only x) ≡ h x)
      → Column f all out₀ out n (map first_only es ++ map second_only fs) → n + length es + length fs ≤ length out₀ → put (put out n (map g es)) (n + length es) (map h fs) ≡ all
  rest_put f g h all out₀ out p q c l =
      let size = c.size in
      let width = length-map es g in
      let place : n + length es ≡ n + length (map g es) = omega arith in
      ap (λ (m : ℕ). put (put out n (map g es)) m (map h fs)) place
      ∙ put_next out n (map g es) (map h fs) (omega arith)
      ∙ ap (put out n) (sym (rest_column f g h p q))
      ∙ c.there

  module _ (ds : List Difference) (before now : Room) (k : Listing ds before now n (map first_only es ++ map second_only fs)) where
    pub rest_counted : n + length es + length fs ≡ length ds
    rest_counted =
        let a = map first_only es in
        let b = map second_only fs in
        omega (arith, k.counted, length-append a b, length-map es first_only, length-map fs second_only)

    -- one is the room behind the first profile's; of the second the values change places
    pub rest_listed : length ds ≤ room_in before → (one two : Room) (behind : ℕ) → one ≡ rest_in n es now → behind ≡ n + length es
        → lent two.codes two.second two.first ≡ rest_in behind fs (lent one.codes one.second one.first) → two ≡ listed_in ds before
    rest_listed l one two behind x b y =
        let m = rest_counted in
        let c = rest_put (λ (d : Difference). d.code) (λ (e : Setting). e.code) (λ (e : Setting). e.code) _ before.codes now.codes (λ e. refl) (λ e. refl) k.codes_in (omega arith) in
        let f = rest_put (λ (d : Difference). d.first) (λ (e : Setting). e.value) (λ (e : Setting). absent) _ before.first now.first (λ e. refl) (λ e. refl) k.firsts_in (omega arith) in
        let s = rest_put (λ (d : Difference). d.second) (λ (e : Setting). absent) (λ (e : Setting). e.value) _ before.second now.second (λ e. refl) (λ e. refl) k.seconds_in (omega arith) in
        let codes : two.codes ≡ (listed_in ds before).codes = ap (λ (r : Room). r.codes) y ∙ ap₂ (λ (r : Room) (o : ℕ). put r.codes o (map (λ (e : Setting). e.code) fs)) x b ∙ c in
        let firsts : two.first ≡ (listed_in ds before).first = ap (λ (r : Room). r.second) y ∙ ap₂ (λ (r : Room) (o : ℕ). put r.first o (map (λ (e : Setting). absent) fs)) x b ∙ f in
        let seconds : two.second ≡ (listed_in ds before).second = ap (λ (r : Room). r.first) y ∙ ap₂ (λ (r : Room) (o : ℕ). put r.second o (map (λ (e : Setting). e.value) fs)) x b ∙ s in
        ap₂ (λ (p q : List ℕ). lent p q two.second) codes firsts ∙ ap (lent (listed_in ds before).codes (listed_in ds before).first) seconds
