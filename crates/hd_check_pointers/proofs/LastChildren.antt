-- The last children of a segment, type by type.
use Rattle.std.proofs.Common.{◌≡◌, ◌≢◌, ◌⊎◌, inl, inr, ℕ, zero, suc, ◌+◌, ◌<◌, ◌≤◌, List, [], ◌∷◌, drop, slice_index_or, length, true, refl, sym, ap, subst, ◌∙◌, arith, ne_eqb}
use Rattle.std.specs.Prelude.{◌==◌}
use Rattle.std.proofs.lemmas.Bool.{cond-false, false≢true}
use Rattle.std.proofs.lemmas.List.{drop_more}
use Rattle.std.proofs.Math.ListN.{drop_of_length-le}
use Rattle.hd_dbd.specs.Types.{SegmentType}
use Rattle.hd_dbd.specs.Prefixes.{children_of}
use Rattle.hd_links.specs.Links.{Links, child_types, is_last_kept}
use Rattle.hd_links.proofs.Types.{is_in, in_cases, in_head, in_tail, Ascending, above_in, types_ascend}
use Rattle.hd_image.specs.PointerFaults.{IsWrongLast, HasWrongLast}
use Rattle.hd_check_pointers.specs.Twins.{IsLastRight, AreLastsRight}

-- a right last child is not wrong
pub right-not-wrong : (m : Links) (h t : ℕ) → IsLastRight m h t → IsWrongLast m h t → ⊥
right-not-wrong m h t r (inl w) = w.1 (r.none w.0)
right-not-wrong m h t r (inr w) = (let both = r.some (let ne = w.0 in omega arith) in w.1 both.0 both.1)

-- each type is left, or its last child is right
abbrev pub IsLeftOrRight : List SegmentType → Links → ℕ → List ℕ → ℕ → Type 0
IsLeftOrRight types m h ts i = (u : ℕ) → is_in ts u ≡ true → (is_in (drop i ts) u ≡ true) ⊎ (is_last_kept types u ≡ true → IsLastRight m h u)

-- the types that are left ascend
ascend-drop : (ts : List ℕ) (i : ℕ) → Ascending ts → Ascending (drop i ts)
ascend-drop ts zero h = h
ascend-drop [] (suc i) h = tt
ascend-drop (t ∷ ts) (suc i) h = ascend-drop ts i h.1

-- what is left is among all
drop-in : (ts : List ℕ) (i u : ℕ) → is_in (drop i ts) u ≡ true → is_in ts u ≡ true
drop-in ts zero u h = h
drop-in [] (suc i) u h = h
drop-in (t ∷ ts) (suc i) u h = in_tail t u ts (drop-in ts i u h)

-- a type with a type is no header's
pub own-types : (types : List SegmentType) (c : ℕ) → c ≢ 0 → child_types types c ≡ children_of types c
own-types types c some = cond-false (c == 0) (1 ∷ []) (children_of types c) (ne_eqb c 0 some)

module _ (types : List SegmentType) (m : Links) (h : ℕ) (ts : List ℕ) (i : ℕ) (within : i < length ts) where
  -- the type in hand is among all
  pub hand-in : is_in ts (slice_index_or ts i 0) ≡ true
  hand-in = drop-in ts i (slice_index_or ts i 0)
      (ap (λ (us : List ℕ). is_in us (slice_index_or ts i 0)) (drop_more ts i 0 within) ∙ in_head (slice_index_or ts i 0) (slice_index_or ts i 0) (drop (i + 1) ts) refl)

  -- one type fewer is left
  pub left-more : (is_last_kept types (slice_index_or ts i 0) ≡ true → IsLastRight m h (slice_index_or ts i 0)) → IsLeftOrRight types m h ts i → IsLeftOrRight types m h ts (i + 1)
  left-more right before u among = elim (before u among) [
    | inr known ↦ inr known
    | inl left ↦ elim (in_cases (slice_index_or ts i 0) u (drop (i + 1) ts) (ap (λ (us : List ℕ). is_in us u) (sym (drop_more ts i 0 within)) ∙ left)) [
      | inl same ↦ inr (subst (λ (x : ℕ). is_last_kept types x ≡ true → IsLastRight m h x) same right)
      | inr later ↦ inl later
    ]
  ]

  -- no earlier type is wrong
  pub none-earlier : Ascending ts → IsLeftOrRight types m h ts i → (u : ℕ) → u < slice_index_or ts i 0 → is_in ts u ≡ true → is_last_kept types u ≡ true → IsWrongLast m h u → ⊥
  none-earlier ascend before u less among kept wrong = elim (before u among) [
    | inr known ↦ right-not-wrong m h u (known kept) wrong
    | inl left ↦ elim (in_cases (slice_index_or ts i 0) u (drop (i + 1) ts) (ap (λ (us : List ℕ). is_in us u) (sym (drop_more ts i 0 within)) ∙ left)) [
      | inl same ↦ absurd (omega arith)
      | inr later ↦
          (let asc : Ascending (slice_index_or ts i 0 ∷ drop (i + 1) ts) = subst Ascending (drop_more ts i 0 within) (ascend-drop ts i ascend) in
          let above : slice_index_or ts i 0 < u = above_in (slice_index_or ts i 0) u (drop (i + 1) ts) asc.0 later in absurd (omega arith))
    ]
  ]

-- where none is left all are right
pub none-left : (types : List SegmentType) (m : Links) (h : ℕ) (ts : List ℕ) (i : ℕ) → length ts ≤ i → IsLeftOrRight types m h ts i → (u : ℕ) → is_in ts u ≡ true → is_last_kept types u ≡ true → IsLastRight m h u
none-left types m h ts i end before u among kept = elim (before u among) [
  | inr known ↦ known kept
  | inl left ↦ absurd (false≢true (ap (λ (us : List ℕ). is_in us u) (sym (drop_of_length-le ts end)) ∙ left))
]

-- the child types of a type, as they are listed for it
pub listed : (types : List SegmentType) (c : ℕ) (ts : List ℕ) → c ≢ 0 → ts ≡ children_of types c → child_types types c ≡ ts
listed types c ts some is = own-types types c some ∙ sym is

-- the last child of the type in hand is the first that is wrong
pub first-wrong : (types : List SegmentType) (m : Links) (h c : ℕ) (ts : List ℕ) (i x : ℕ) → i < length ts → m.here h ≡ true → m.code h ≡ c → child_types types c ≡ ts
    → is_last_kept types (slice_index_or ts i 0) ≡ true → IsWrongLast m h (slice_index_or ts i 0) → x ≡ m.last_child h (slice_index_or ts i 0) → IsLeftOrRight types m h ts i → HasWrongLast types m h x
first-wrong types m h c ts i x within here code list kept wrong is before =
    let all : child_types types (m.code h) ≡ ts = ap (child_types types) code ∙ list in (
      slice_index_or ts i 0,
      here,
      ap (λ (us : List ℕ). is_in us (slice_index_or ts i 0)) all ∙ hand-in types m h ts i within,
      kept,
      wrong,
      is,
      λ u less child k w. none-earlier types m h ts i within (subst Ascending all (types_ascend types (m.code h))) before u less (sym (ap (λ (us : List ℕ). is_in us u) all) ∙ child) k w,
    )

-- all last children are right where none is left
pub lasts-right : (types : List SegmentType) (m : Links) (h c : ℕ) (ts : List ℕ) (i : ℕ) → length ts ≤ i → m.code h ≡ c → child_types types c ≡ ts → IsLeftOrRight types m h ts i → AreLastsRight types m h
lasts-right types m h c ts i end code list before t child kept =
    none-left types m h ts i end before t (sym (ap (λ (us : List ℕ). is_in us t) (ap (child_types types) code ∙ list)) ∙ child) kept
