-- Pointers that are noted one after another.
use Rattle.std.proofs.Common.{◌≡◌, ◌≢◌, ℕ, zero, suc, ◌<◌, List, [], ◌∷◌, ◌++◌, length, slice_index, Option, Some, None, false, refl, sym, ap, subst, ◌∙◌, arith, ne_eqb}
use Rattle.std.specs.Prelude.{is_some, ◌==◌}
use Rattle.std.proofs.lemmas.List.{append_assoc}
use Rattle.std.proofs.lemmas.Bool.{cond-false}
use Rattle.hd_dbd.specs.Types.{SegmentType}
use Rattle.hd_dbd.specs.Prefixes.{children_of}
use Rattle.hd_links.specs.Links.{Links}
use Rattle.hd_check_blocks.specs.declared.fault.Fault.{Fault}
use Rattle.hd_check_blocks.specs.declared.places.Place.{Place}
use Rattle.hd_check_pointers.specs.declared.namings.Naming.{Naming}
use Rattle.hd_check_pointers.specs.Tables.{place_at, AreForwards}
use Rattle.hd_check_pointers.specs.Namings.{naming_of, first_namings, segment_namings, namings_at, forwards_of, fault_or}

-- where the first finds nothing the other decides
pub or-none : (o r : Option Fault) → is_some o ≡ false → fault_or o r ≡ r
or-none None r h = refl
or-none (Some f) r h = cc

-- the first child of one more type is noted
pub child-noted : (m : Links) (a t x : ℕ) (items new : List Naming) (ts : List ℕ) → new ≡ items ++ naming_of x a → x ≡ m.first_child a t
    → new ++ first_namings m a ts ≡ items ++ first_namings m a (t ∷ ts)
child-noted m a t x items new ts is first =
    ap (λ (l : List Naming). l ++ first_namings m a ts) is ∙ append_assoc items (naming_of x a) (first_namings m a ts)
    ∙ ap (λ (y : ℕ). items ++ (naming_of y a ++ first_namings m a ts)) first

-- a segment's pointers are noted when twin forward and the first children are
pub segment-noted : (types : List SegmentType) (m : Links) (a forward : ℕ) (old middle new : List Naming) → m.code a ≢ 0 → forward ≡ m.forward a
    → middle ≡ old ++ naming_of forward a → new ≡ middle ++ first_namings m a (children_of types (m.code a)) → new ≡ old ++ segment_namings types m a
segment-noted types m a forward old middle new typed own first rest =
    rest ∙ ap (λ (l : List Naming). l ++ first_namings m a (children_of types (m.code a))) first ∙ append_assoc old (naming_of forward a) (first_namings m a (children_of types (m.code a)))
    ∙ ap (λ (x : ℕ). old ++ (naming_of x a ++ first_namings m a (children_of types (m.code a)))) own
    ∙ ap (λ (ts : List ℕ). old ++ (naming_of (m.forward a) a ++ first_namings m a ts)) (sym (cond-false (m.code a == 0) (1 ∷ []) (children_of types (m.code a)) (ne_eqb (m.code a) 0 typed)))

-- the pointers of one more segment are noted
pub place-noted : (types : List SegmentType) (m : Links) (p : Place) (items new : List Naming) (ps : List Place) → new ≡ items ++ segment_namings types m p.address
    → new ++ namings_at types m ps ≡ items ++ namings_at types m (p ∷ ps)
place-noted types m p items new ps is =
    ap (λ (l : List Naming). l ++ namings_at types m ps) is ∙ append_assoc items (segment_namings types m p.address) (namings_at types m ps)

-- the twin forward pointer of one more segment is noted
pub forward-noted : (m : Links) (p : Place) (items new : List ℕ) (ps : List Place) → new ≡ items ++ m.forward p.address ∷ []
    → new ++ forwards_of m ps ≡ items ++ forwards_of m (p ∷ ps)
forward-noted m p items new ps is =
    ap (λ (l : List ℕ). l ++ forwards_of m ps) is ∙ append_assoc items (m.forward p.address ∷ []) (forwards_of m ps)

-- there are as many twin forward pointers as segments
forwards-length : (m : Links) (ps : List Place) → length (forwards_of m ps) ≡ length ps
forwards-length m [] = refl
forwards-length m (p ∷ ps) = ap suc (forwards-length m ps)

-- and each is that of its segment
forwards-at : (m : Links) (ps : List Place) (i : ℕ) → i < length ps → slice_index (forwards_of m ps) i ≡ m.forward (place_at ps i).address
forwards-at m [] i l = absurd (omega arith)
forwards-at m (p ∷ ps) zero l = refl
forwards-at m (p ∷ ps) (suc i) l = forwards-at m ps i (omega arith)

-- the twin forward pointers of all segments are noted
pub forwards-are : (m : Links) (ps : List Place) (items : List ℕ) → items ≡ forwards_of m ps → AreForwards m ps items
forwards-are m ps items is = subst (AreForwards m ps) (sym is) (record { as_many = forwards-length m ps; names = forwards-at m ps })
