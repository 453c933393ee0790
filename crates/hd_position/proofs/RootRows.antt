-- The rows of level 1 are the roots.
use Rattle.std.proofs.Common.{◌≡◌, ℕ, ◌<◌, List, [], ◌∷◌, length, ap, ap₂, sym, ◌∙◌, subst, arith, inl, inr, true, refl, None}
use Rattle.std.specs.Prelude.{◌==◌}
use Rattle.std.specs.List.{list_any}
use Rattle.std.proofs.lemmas.Bool.{cases_eq, cases_Bool, eq-eqb, ne_eqb, eqb-true, or_left, or_right, or_cases, false≢true}
use Rattle.hd_dbd.specs.declared.hierarchy.FreeSpace.{FreeSpace}
use Rattle.hd_dbd.specs.Types.{SegmentType}
use Rattle.hd_dbd.specs.Paths.{level_at}
use Rattle.hd_dbd.specs.Forest.{Forest, empty, node}
use Rattle.hd_links.specs.Links.{Links, is_child_type}
use Rattle.hd_links.specs.Placed.{Placed, nowhere}
use Rattle.hd_links.specs.Pointers.{IsInChain}
use Rattle.hd_links.specs.Steps.{rows_of, address_at, path_at, LeadsDown, tip_from}
use Rattle.hd_links.specs.LastRows.{roots_of}
use Rattle.hd_links.proofs.Types.{ordered}
use Rattle.hd_links.proofs.Forms.{Formed, formed}
use Rattle.hd_links.proofs.Joins.{IsOne}
use Rattle.hd_links.proofs.Places.{chain_one, one_there}
use Rattle.hd_links.proofs.LastRows.{one_chain}
use Rattle.hd_position.specs.Laws.{IsHeld, RootsAreOfLevelOne}
use Rattle.hd_position.proofs.Leaves.{Grounds, grounds}
use Rattle.hd_position.proofs.Before.{path_levels}

-- a node of the roots is one of the roots' list
one_root : (t a : ℕ) (f : Forest Placed) → IsOne t a f → list_any (λ p. p.address == a) (roots_of f) ≡ true
one_root t a empty o = absurd o
one_root t a (node p k n) (inl e) = or_left (p.address == a) (list_any (λ q. q.address == a) (roots_of n)) (eq-eqb p.address a e.0)
one_root t a (node p k n) (inr o) = or_right (p.address == a) (list_any (λ q. q.address == a) (roots_of n)) (one_root t a n o)

-- and the other way round, with its type
root_one : (types : List SegmentType) (c a : ℕ) (f : Forest Placed) → Formed types c f → list_any (λ p. p.address == a) (roots_of f) ≡ true → (t : ℕ) × (is_child_type types c t ≡ true) × IsOne t a f
root_one types c a empty F on = absurd (false≢true on)
root_one types c a (node p k n) F on = elim (or_cases (p.address == a) (list_any (λ q. q.address == a) (roots_of n)) on) [
  | inl e ↦ (p.segment.code, F.0, inl (eqb-true p.address a e, refl))
  | inr o ↦ (let R = root_one types c a n F.3 o in (R.0, R.1, inr R.2))
]

single : (xs : List ℕ) (a : ℕ) → length xs ≡ 1 → tip_from 0 xs ≡ a → xs ≡ a ∷ []
single [] a l t = absurd (omega arith)
single (x ∷ []) a l t = ap (λ y. y ∷ []) t
single (x ∷ y ∷ xs) a l t = absurd (omega arith)

module _ (block_size : ℕ) (frspc : FreeSpace) (types : List SegmentType) (bound : ℕ) (m : Links) (f : Forest Placed) (D : IsHeld block_size frspc types bound m f) (i : ℕ) (within : i < length (rows_of f)) where
  a : ℕ
  a = address_at f i

  ground : Grounds types m f
  ground = grounds block_size frspc types bound m f D.formed D.graph D.holds

  long : length (path_at types f i) ≡ level_at types (rows_of f) i
  long = (path_levels block_size frspc types bound m f i D within).0

  from_level : level_at types (rows_of f) i ≡ 1 → list_any (λ p. p.address == address_at f i) (roots_of f) ≡ true
  from_level top =
      let S = ground.steps i within in
      let is : path_at types f i ≡ address_at f i ∷ [] = single (path_at types f i) (address_at f i) (long ∙ top) S.tip in
      let L : LeadsDown types m 0 (address_at f i ∷ []) = subst (LeadsDown types m 0) is S.path in
      let typed : is_child_type types 0 (m.code (address_at f i)) ≡ true = ap (λ c. is_child_type types c (m.code (address_at f i))) (sym D.graph.header_code) ∙ L.0 in
      let chain : IsInChain m _ (address_at f i) = subst (λ x. IsInChain m x (address_at f i)) (D.holds.lies.roots.first (m.code (address_at f i)) typed) L.1 in
      one_root (m.code (address_at f i)) (address_at f i) f (chain_one types m (m.code (address_at f i)) (address_at f i) nowhere f D.holds.lies.nodes chain.0 chain.1)

  from_root : list_any (λ p. p.address == address_at f i) (roots_of f) ≡ true → level_at types (rows_of f) i ≡ 1
  from_root on =
      let O = ordered block_size frspc types D.formed in
      let b : ℕ = address_at f i in
      let R = root_one types 0 b f (formed types O 0 None f D.holds.fits) on in
      let code : m.code b ≡ R.0 = (one_there types m R.0 b nowhere f D.holds.lies.nodes R.2).1 in
      let chain : IsInChain m (m.first_child 0 R.0) b = subst (λ x. IsInChain m x b) (sym (D.holds.lies.roots.first R.0 R.1)) (one_chain types m nowhere R.0 b f D.holds.lies.nodes R.2) in
      let L : LeadsDown types m 0 (b ∷ []) = (ap₂ (λ c t. is_child_type types c t) D.graph.header_code code ∙ R.1, subst (λ t. IsInChain m (m.first_child 0 t) b) (sym code) chain, tt) in
      sym long ∙ ap (λ (xs : List ℕ). length xs) (sym ((ground.steps i within).only (b ∷ []) L refl))

pub roots_are : RootsAreOfLevelOne
roots_are block_size frspc types bound m f i D within = elim (cases_eq (level_at types (rows_of f) i) 1) [
  | inl top ↦ from_level block_size frspc types bound m f D i within top ∙ sym (eq-eqb (level_at types (rows_of f) i) 1 top)
  | inr deep ↦ elim (cases_Bool (list_any (λ p. p.address == address_at f i) (roots_of f))) [
    | inl on ↦ absurd (deep (from_root block_size frspc types bound m f D i within on))
    | inr off ↦ off ∙ sym (ne_eqb (level_at types (rows_of f) i) 1 deep)
  ]
]
