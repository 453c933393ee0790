-- The names and parents of types.
use Rattle.std.proofs.Common.{◌≡◌, ℕ, ◌+◌, ◌<◌, List, length, get_or, take, Bool, true, false, not, ◌&&◌, Option, Some, None, refl, sym, ap, ◌∙◌, arith}
use Rattle.std.specs.Prelude.{◌==◌, bytes_eq, Decides}
use Rattle.std.specs.Option.{option_eq}
use Rattle.std.proofs.lemmas.Bool.Decides.{Decides-eqb, Decides-and, Decides-like}
use Rattle.std.proofs.lemmas.Bool.{not-true, not-false}
use Rattle.std.proofs.lemmas.Slice.Eq.{bytes_eq-Decides}
use Rattle.std.proofs.lemmas.List.{take_more_same, get_or-map, length-map}
use Rattle.hd_dbd.specs.Types.{SegmentType}
use Rattle.hd_dbd.specs.declared.program.TypeName.{TypeName}
use Rattle.hd_dbd.specs.ProgramRules.{type_names}

-- `==` of two codes, of which either may be missing, says whether they are one
pub option_eq-Decides : (a b : Option ℕ) → Decides (option_eq (λ p q. p == q) a b) (a ≡ b)
option_eq-Decides None None = (λ h. refl, λ h. refl)
option_eq-Decides None (Some q) = (λ h. cc, λ h. cc)
option_eq-Decides (Some p) None = (λ h. cc, λ h. cc)
option_eq-Decides (Some p) (Some q) = (λ h. ap (λ (n : ℕ). Some n) ((Decides-eqb p q).0 h), λ h. (Decides-eqb p q).1 (cc))

-- the name and parent of a type
abbrev pub name_of : SegmentType → TypeName
name_of t = record { name = t.name; parent = t.parent }

-- what `==` answers at two names with parents
abbrev pub is_same : TypeName → TypeName → Bool
is_same n m = bytes_eq n.name m.name && option_eq (λ p q. p == q) n.parent m.parent

-- it says whether they are one
pub is_same-Decides : (n m : TypeName) → Decides (is_same n m) (n ≡ m)
is_same-Decides n m =
    Decides-like _ (λ e. (λ i. record { name = e.0 i; parent = e.1 i })) (λ e. (ap (λ (x : TypeName). x.name) e, ap (λ (x : TypeName). x.parent) e))
    (Decides-and _ _ (bytes_eq-Decides n.name m.name) (option_eq-Decides n.parent m.parent))

-- the name at a place is that of the type there
named_at : (types : List SegmentType) (i : ℕ) (t : SegmentType) (d : TypeName) → i < length types → t ≡ get_or types i t → get_or (type_names types) i d ≡ name_of t
named_at types i t d below is = get_or-map name_of types i t d below ∙ ap name_of (sym is)

-- where the types before a place have the names, and the one there its own, so have one more
pub names_more : (names : List TypeName) (types : List SegmentType) (i : ℕ) (n m : TypeName) (t : SegmentType) → i < length names → i < length types
    → n ≡ get_or names i n → t ≡ get_or types i t → m ≡ name_of t → false ≡ not (is_same n m) → take i names ≡ take i (type_names types)
    → take (i + 1) names ≡ take (i + 1) (type_names types)
names_more names types i n m t in_names in_types n_is t_is m_is same before =
    take_more_same names (type_names types) i n in_names (omega (arith, length-map types name_of)) before
    (sym n_is ∙ (is_same-Decides n m).0 (not-false _ (sym same)) ∙ m_is ∙ sym (named_at types i t n in_types t_is))

-- where a place has another name than the type there, the names are not those of the types
pub names_differ : (names : List TypeName) (types : List SegmentType) (i : ℕ) (n m : TypeName) (t : SegmentType) → i < length types
    → n ≡ get_or names i n → t ≡ get_or types i t → m ≡ name_of t → true ≡ not (is_same n m) → names ≡ type_names types → ⊥
names_differ names types i n m t in_types n_is t_is m_is other all =
    let same : is_same n m ≡ true =
    (is_same-Decides n m).1 (n_is ∙ ap (λ (xs : List TypeName). get_or xs i n) all ∙ named_at types i t n in_types t_is ∙ sym m_is) in
    let not_same : is_same n m ≡ false = not-true _ (sym other) in
    cc
