-- The tests of a get without arguments that goes on to a row of a type that its PCB reads.
use Rattle.std.proofs.Common.{◌≡◌, ℕ, List, [], ◌∷◌, Bool, true, false, cond, Option, None, Some, refl, ap, ap₂, sym, ◌∙◌}
use Rattle.std.specs.Prelude.{◌&&◌, ◌||◌, not, find, option_map, is_some}
use Rattle.std.specs.Option.{option_map_or}
use Rattle.std.specs.List.{list_any}
use Rattle.hd_dbd.specs.Types.{SegmentType, View, SeenType}
use Rattle.hd_dbd.specs.Hierarchy.{Database, type_of}
use Rattle.hd_dbd.specs.Positions.{Position}
use Rattle.hd_dbd.specs.Forest.{Forest}
use Rattle.hd_dbd.specs.Letters.{gives_get}
use Rattle.hd_dbd.specs.Views.{letters_of, letters_for, reads_some, may}
use Rattle.hd_calls.specs.declared.call.GetKind.{GetKind}
use Rattle.hd_calls.specs.declared.call.GetKind.TheVariants.{Unique, Next, NextInParent}
use Rattle.hd_calls.specs.declared.call.Function.TheVariants.{Get}
use Rattle.hd_calls.specs.Steps.{is_allowed}
use Rattle.hd_links.specs.Placed.{Placed}
use Rattle.hd_links.specs.Steps.{rows_of}
use Rattle.hd_position.specs.Kept.{Kept, StandsFor, row_on}
use Rattle.hd_get.specs.Behind.{begins_behind}
use Rattle.hd_get.proofs.RowsBehind.{below_parent}
use Rattle.hd_get.proofs.Starts.{parent_there}
use Rattle.hd_session.specs.Onward.{IsReadable}
use Rattle.hd_session.specs.Tests.{AreLastTests}
use Rattle.hd_session.proofs.Order.{allowed, any_parent, looks_anywhere}

either_true : (b : Bool) → (b || true) ≡ true
either_true true = refl
either_true false = refl

-- where the first of some kind is as asked, some is
some_found : {A : Type 0} (p q : A → Bool) (xs : List A) → option_map_or q (find p xs) false ≡ true → list_any q xs ≡ true
some_found p q [] e = absurd (let z : false ≡ true = e in cc)
some_found p q (x ∷ xs) e = by (p x) refl (some_found p q xs)
  where
    by : (b : Bool) → p x ≡ b → (option_map_or q (find p xs) false ≡ true → list_any q xs ≡ true) → (q x || list_any q xs) ≡ true
    by true here more =
        (let own : q x ≡ true = sym (ap (λ (b : Bool). option_map_or q (cond b (Some x) (find p xs)) false) here) ∙ e in
        ap (λ (b : Bool). b || list_any q xs) own)
    by false later more =
        (let rest : option_map_or q (find p xs) false ≡ true = sym (ap (λ (b : Bool). option_map_or q (cond b (Some x) (find p xs)) false) later) ∙ e in
        ap (λ (b : Bool). q x || b) (more rest) ∙ either_true (q x))

mapped : (pcb : View) (o : Option SeenType) → option_map_or gives_get (option_map (λ s. letters_of pcb s) o) false ≡ option_map_or (λ s. gives_get (letters_of pcb s)) o false
mapped pcb None = refl
mapped pcb (Some s) = refl

-- a PCB that may read a type reads some
pub reads_one : (types : List SegmentType) (pcb : View) (code : ℕ) → may (record { types = types; pcb = pcb }) gives_get code ≡ true → reads_some pcb ≡ true
reads_one types pcb code is = by (type_of types code) is
  where
    by : (o : Option SegmentType) → option_map_or (λ t. option_map_or gives_get (letters_for pcb t.name) false) o false ≡ true → reads_some pcb ≡ true
    by None e = absurd (let z : false ≡ true = e in cc)
    by (Some t) e = some_found _ (λ s. gives_get (letters_of pcb s)) pcb.sens (sym (mapped pcb (find _ pcb.sens)) ∙ e)

module _ (d : Database) (f : Forest Placed) (k : Kept) (q : Position) (stands : StandsFor d.types f k q) (pcb : View) (hold : Bool) (code : ℕ) (readable : IsReadable d.types pcb code) where
  allowed_bare : (kind : GetKind) → is_allowed (record { types = d.types; pcb = pcb }) (rows_of f) q.held (Get kind hold) [] ≡ true
  allowed_bare kind = ap₂ (λ (a b : Bool). not a && b) readable.1 (reads_one d.types pcb code readable.0)

  -- such a get passes its last tests
  pub bare_tests : (kind : GetKind) → begins_behind d.types kind k code ≡ true → AreLastTests (record { types = d.types; pcb = pcb }) (rows_of f) q (Get kind hold) [] None
  bare_tests Unique is = absurd (let z : false ≡ true = is in cc)
  bare_tests Next is =
      allowed (record { types = d.types; pcb = pcb }) (rows_of f) q (Get Next hold) [] true true true (allowed_bare Next) refl refl (looks_anywhere d.types (rows_of f) q.parent Next hold [] (λ e. cc))
  bare_tests NextInParent is =
      let some : is_some q.parent ≡ true = sym (parent_there d.types f k q stands (row_on k.path k.parent) refl) ∙ (below_parent d k code is).0 in
      allowed (record { types = d.types; pcb = pcb }) (rows_of f) q (Get NextInParent hold) [] true true true (allowed_bare NextInParent) refl refl (any_parent d.types (rows_of f) q.parent ∙ some)
