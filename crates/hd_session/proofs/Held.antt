-- Tests of held rows, told of their numbers.
use Rattle.std.proofs.Common.{◌≡◌, ℕ, List, [], ◌∷◌, Bool, true, false, refl, ap, sym, ◌∙◌}
use Rattle.std.specs.Prelude.{length, is_some, is_none, filter, not, ◌||◌, ◌&&◌, cond, Option, Some, None, option_map, find, slice_get, ◌==◌}
use Rattle.std.specs.List.{list_all}
use Rattle.std.proofs.lemmas.List.{length-map}
use Rattle.std.proofs.lemmas.List.Folds.{list_all-map}
use Rattle.hd_dbd.specs.Segment.{Segment}
use Rattle.hd_dbd.specs.Paths.{row_at}
use Rattle.hd_dbd.specs.Views.{Setting, may}
use Rattle.hd_dbd.specs.Letters.{gives_replace}
use Rattle.hd_calls.specs.Ssas.{Ssa}
use Rattle.hd_calls.specs.Steps.{is_excepted, replaced_rows, held_of, deleted_row}
use Rattle.hd_update.specs.declared.held.HeldRow.{HeldRow}
use Rattle.hd_update.specs.Deleting.{taken_row}
use Rattle.hd_session.specs.Tests.{held_at, AreHeldOf, all_replaceable}

-- an element that is out is not asked
out_or : (out : Bool) (g : ℕ → Bool) (x : ℕ) (xs : List ℕ) → (out || g x) && list_all g xs ≡ list_all g (cond (not out) (x ∷ xs) xs)
out_or true g x xs = refl
out_or false g x xs = refl

-- those that are not out all pass, just where each is out or passes
all_but : (out g : ℕ → Bool) (xs : List ℕ) → list_all (λ i. out i || g i) xs ≡ list_all g (filter (λ i. not (out i)) xs)
all_but out g [] = refl
all_but out g (x ∷ xs) = ap (λ b. (out x || g x) && b) (all_but out g xs) ∙ out_or (out x) g x (filter (λ i. not (out i)) xs)

-- every held row may be replaced or is excepted, just where every one that is replaced may be
pub all_replaced : (s : Setting) (ssas : List Ssa) (places : ℕ → ℕ) (rows : List Segment) (numbers : List ℕ)
    → all_replaceable s ssas (held_at places rows numbers) ≡ list_all (λ i. may s gives_replace (row_at rows i).code) (replaced_rows rows ssas numbers)
all_replaced s ssas places rows numbers =
    list_all-map (λ (h : HeldRow). is_excepted ssas h.code || may s gives_replace h.code) (λ i. record { address = places i; code = (row_at rows i).code; length = length (row_at rows i).bytes }) numbers
    ∙ all_but (λ i. is_excepted ssas (row_at rows i).code) (λ i. may s gives_replace (row_at rows i).code) numbers

-- the first of two ways
first_of : (b : Bool) (places : ℕ → ℕ) (rows : List Segment) (i : ℕ) (xs : Option HeldRow) (ys : Option ℕ) → option_map (λ h. h.code) xs ≡ option_map (λ k. (row_at rows k).code) ys
    → option_map (λ h. h.code) (cond b (Some (record { address = places i; code = (row_at rows i).code; length = length (row_at rows i).bytes })) xs) ≡ option_map (λ k. (row_at rows k).code) (cond b (Some i) ys)
first_of true places rows i xs ys e = refl
first_of false places rows i xs ys e = e

-- the code of the held row of a type
code_held : (places : ℕ → ℕ) (rows : List Segment) (numbers : List ℕ) (code : ℕ)
    → option_map (λ h. h.code) (find (λ h. h.code == code) (held_at places rows numbers)) ≡ option_map (λ i. (row_at rows i).code) (held_of rows numbers code)
code_held places rows [] code = refl
code_held places rows (i ∷ numbers) code = first_of ((row_at rows i).code == code) places rows i _ _ (code_held places rows numbers code)

-- the code of the first held row
first_held : (places : ℕ → ℕ) (rows : List Segment) (numbers : List ℕ) → option_map (λ h. h.code) (slice_get (held_at places rows numbers) 0) ≡ option_map (λ i. (row_at rows i).code) (slice_get numbers 0)
first_held places rows [] = refl
first_held places rows (i ∷ numbers) = refl

-- the code of the row that is taken
pub code_taken : (rows : List Segment) (numbers : List ℕ) (held : List HeldRow) (ssas : List Ssa) → AreHeldOf rows numbers held
    → option_map (λ h. h.code) (taken_row ssas held) ≡ option_map (λ i. (row_at rows i).code) (deleted_row rows ssas numbers)
code_taken rows numbers held [] of = ap (λ (hs : List HeldRow). option_map (λ h. h.code) (slice_get hs 0)) of.1 ∙ first_held of.0 rows numbers
code_taken rows numbers held (a ∷ ssas) of =
    ap (λ (hs : List HeldRow). option_map (λ h. h.code) (find (λ h. h.code == a.code) hs)) of.1 ∙ code_held of.0 rows numbers a.code

-- the held row of a number
abbrev the_row : (ℕ → ℕ) → List Segment → ℕ → HeldRow
the_row places rows i = record { address = places i; code = (row_at rows i).code; length = length (row_at rows i).bytes }

-- as many rows are held as there are numbers
pub as_many_held : (rows : List Segment) (numbers : List ℕ) (held : List HeldRow) → AreHeldOf rows numbers held → length numbers ≡ length held
as_many_held rows numbers held of =
    sym (length-map numbers (λ (i : ℕ). the_row of.0 rows i)) ∙ ap (λ (hs : List HeldRow). length hs) (sym of.1)

-- there is an image just where there is a value
pub some_mapped : {A B : Type 0} (f : A → B) (o : Option A) → is_some (option_map f o) ≡ is_some o
some_mapped f None = refl
some_mapped f (Some x) = refl

-- a row is taken just where its code is known
pub taken : (ssas : List Ssa) (rows : List Segment) (numbers : List ℕ) (code : Option ℕ) → code ≡ option_map (λ i. (row_at rows i).code) (deleted_row rows ssas numbers)
    → is_some (deleted_row rows ssas numbers) ≡ not (is_none code)
taken ssas rows numbers code e = none_mapped (deleted_row rows ssas numbers) ∙ ap (λ (o : Option ℕ). not (is_none o)) (sym e)
  where
    none_mapped : (o : Option ℕ) → is_some o ≡ not (is_none (option_map (λ i. (row_at rows i).code) o))
    none_mapped None = refl
    none_mapped (Some x) = refl
