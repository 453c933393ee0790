-- The rows at the front of an array.
use Rattle.std.proofs.Common.{◌≡◌, ℕ, zero, suc, ◌<◌, ◌≤◌, ◌++◌, List, [], ◌∷◌, length, take, Bool, Option, Some, None, refl, ap, arith}
use Rattle.std.specs.List.{list_any}
use Rattle.hd_links.specs.Placed.{Placed}
use Rattle.hd_links.specs.LastRows.{segments_of}
use Rattle.hd_unload.specs.declared.path.Loaded.{Loaded}
use Rattle.hd_unload.specs.Paths.{placed_of}
use Rattle.std.specs.Prelude.{◌==◌, ◌||◌, option_map, map, slice_get, slice_index_or, slice_set}

-- what stands at a place of the front
pub at-front : {A B : Type 0} (f : A → B) (xs : List A) (n i : ℕ) (d : A) → i < n → n ≤ length xs → Some (f (slice_index_or xs i d)) ≡ slice_get (map f (take n xs)) i
at-front f [] n i d within long = absurd (omega arith)
at-front f (x ∷ xs) zero i d within long = absurd (omega arith)
at-front f (x ∷ xs) (suc n) zero d within long = refl
at-front f (x ∷ xs) (suc n) (suc i) d within long = at-front f xs n i d (omega arith) (omega arith)

-- nothing stands behind the front
pub past-front : {A B : Type 0} (f : A → B) (xs : List A) (n i : ℕ) → n ≤ i → None ≡ slice_get (map f (take n xs)) i
past-front f xs zero i low = refl
past-front f [] (suc n) i low = refl
past-front f (x ∷ xs) (suc n) zero low = absurd (omega arith)
past-front f (x ∷ xs) (suc n) (suc i) low = past-front f xs n i (omega arith)

-- a front that ends with a new row
pub front-set : {A B : Type 0} (f : A → B) (xs : List A) (k : ℕ) (x : A) → k < length xs → map f (take (suc k) (slice_set xs k x)) ≡ map f (take k xs) ++ f x ∷ []
front-set f [] k x within = absurd (omega arith)
front-set f (y ∷ xs) zero x within = refl
front-set f (y ∷ xs) (suc k) x within = ap (λ zs. f y ∷ zs) (front-set f xs k x (omega arith))

-- the front of a front is the shorter
pub front-low : {A B : Type 0} (f : A → B) (xs : List A) (a b : ℕ) → a ≤ b → map f (take a xs) ≡ take a (map f (take b xs))
front-low f xs zero b low = refl
front-low f [] (suc a) zero low = absurd (omega arith)
front-low f [] (suc a) (suc b) low = refl
front-low f (x ∷ xs) (suc a) zero low = absurd (omega arith)
front-low f (x ∷ xs) (suc a) (suc b) low = ap (λ zs. f x ∷ zs) (front-low f xs a b (omega arith))

pub front-high : {A B : Type 0} (f : A → B) (xs : List A) (a b : ℕ) → b ≤ a → map f (take b xs) ≡ take a (map f (take b xs))
front-high f xs zero zero low = refl
front-high f xs (suc a) zero low = refl
front-high f xs zero (suc b) low = absurd (omega arith)
front-high f [] (suc a) (suc b) low = refl
front-high f (x ∷ xs) (suc a) (suc b) low = ap (λ zs. f x ∷ zs) (front-high f xs a b (omega arith))

-- a row of a type among some rows
pub any-of-type : (code : ℕ) (rows : List Loaded) → list_any (λ r. r.code == code) rows ≡ list_any (λ q. q.code == code) (segments_of (map placed_of rows))
any-of-type code [] = refl
any-of-type code (r ∷ rows) = ap (λ (b : Bool). r.code == code || b) (any-of-type code rows)

-- what stands at a place of the segments
pub segment-at : (path : List Placed) (i : ℕ) (o : Option Loaded) → option_map placed_of o ≡ slice_get path i → option_map (λ r. (placed_of r).segment) o ≡ slice_get (segments_of path) i
segment-at [] zero None e = refl
segment-at [] zero (Some r) e = cc
segment-at [] (suc i) None e = refl
segment-at [] (suc i) (Some r) e = cc
segment-at (p ∷ path) zero None e = cc
segment-at (p ∷ path) zero (Some r) e = ap (λ (o : Option Placed). option_map (λ q. q.segment) o) e
segment-at (p ∷ path) (suc i) o e = segment-at path i o e
