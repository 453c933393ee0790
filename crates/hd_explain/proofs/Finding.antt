-- What is found in tables that stand one behind the other.
use Rattle.std.proofs.Common.{◌≡◌, ◌++◌, ℕ, Bool, List, [], ◌∷◌, Option, Some, None, map, sym, ap, ◌∙◌, inl, inr}
use Rattle.std.specs.Prelude.{find, option_map}
use Rattle.std.specs.Option.{option_or}
use Rattle.std.specs.Str.{str_eq_ignore_ascii_case}
use Rattle.std.proofs.lemmas.List.Folds.{find-append}
use Rattle.std.proofs.lemmas.Bool.{cases_Bool, cond-true, cond-false}
use Rattle.hd_explain.specs.declared.entry.Entry.{Entry}
use Rattle.hd_explain.specs.Entries.{plain, plains, entry_of}

-- what is found among mapped values is what is found before, mapped
find-map : {A B : Type 0} (f : A → B) (p : B → Bool) (xs : List A) → option_map f (find (λ x. p (f x)) xs) ≡ find p (map f xs)
find-map f p [] = cc
find-map f p (x ∷ xs) = elim (cases_Bool (p (f x))) [
  | inl here ↦ ap (option_map f) (cond-true (p (f x)) (Some x) (find (λ x. p (f x)) xs) here)
      ∙ sym (cond-true (p (f x)) (Some (f x)) (find p (map f xs)) here)
  | inr none ↦ ap (option_map f) (cond-false (p (f x)) (Some x) (find (λ x. p (f x)) xs) none)
      ∙ find-map f p xs
      ∙ sym (cond-false (p (f x)) (Some (f x)) (find p (map f xs)) none)
]

-- a map of a map
map-twice : {A B C : Type 0} (f : A → B) (g : B → C) (r : Option A) → option_map (λ x. g (f x)) r ≡ option_map g (option_map f r)
map-twice f g None = cc
map-twice f g (Some x) = cc

-- the entry that was found, as it is read
pub plain-found : {R T : Type 0} (entry : R → Entry T) (read : T → List ℕ) (word : List ℕ) (entries : List (Entry T)) (r : Option R) → option_map entry r ≡ find (λ e. str_eq_ignore_ascii_case (read e.word) word) entries → option_map (λ x. plain (entry x) read) r ≡ entry_of word (plains entries read)
unfolding entry_of plains
plain-found entry read word entries r is =
    map-twice entry (λ e. plain e read) r
    ∙ ap (option_map (λ e. plain e read)) is
    ∙ find-map (λ e. plain e read) (λ e. str_eq_ignore_ascii_case e.word word) entries

-- what was found before, or else in the next entries, is what is found in both
pub searched : (word : List ℕ) (before own : List (Entry (List ℕ))) (r s : Option (Entry (List ℕ))) → r ≡ entry_of word before → s ≡ option_or r (entry_of word own) → s ≡ entry_of word (before ++ own)
unfolding entry_of
searched word before own r s is then =
    then ∙ ap (λ o. option_or o (entry_of word own)) is ∙ sym (find-append (λ e. str_eq_ignore_ascii_case e.word word) before own)
