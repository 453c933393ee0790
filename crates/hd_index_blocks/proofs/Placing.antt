-- Which blocks name a block of an index, where it changes.
use Rattle.std.proofs.Common.{◌≡◌, ◌≢◌, ◌⊎◌, inl, inr, ℕ, suc, ◌≤◌, List, [], ◌∷◌, ◌++◌, Some, refl, sym, ap, ◌∙◌, subst, arith}
use Rattle.std.proofs.lemmas.Bool.{cases_eq}
use Rattle.hd_volume.specs.Entries.{Entry}
use Rattle.hd_volume.specs.Indexes.{IsAmong}
use Rattle.hd_index_blocks.specs.Levels.{IndexBlocks, named}
use Rattle.hd_index_blocks.specs.Changes.{IsDivided}
use Rattle.hd_index_blocks.specs.Parents.{HasParent, ArePlaced}
use Rattle.hd_index_blocks.proofs.Levels.{named-append}
use Rattle.hd_index_blocks.proofs.Downs.{among-parts, among-left, among-right, level-is}

-- A block is named by a block of a level.
pub record IsNamedOn (d : IndexBlocks) (j x : ℕ) : Type 0 where
  pub by : ℕ
  pub level : d.level by ≡ Some j
  pub names : IsAmong x (named (d.entries by))

-- Each block but one was one of its level, what was named still is, and the new one has its place: so each has its place.
pub placed-on : (c d : IndexBlocks) (h m : ℕ) (ns : List ℕ) → ArePlaced c h ns → ((x l : ℕ) → d.level x ≡ Some l → x ≢ m → c.level x ≡ Some l)
    → ((q j x : ℕ) → c.level q ≡ Some j → IsAmong x (named (c.entries q)) → IsNamedOn d j x)
    → ((l : ℕ) → d.level m ≡ Some l → (l ≤ h) × (IsAmong m ns ⊎ HasParent d l m)) → ArePlaced d h ns
placed-on c d h m ns placed was still new x l is = elim (cases_eq x m) [
  | inl e ↦
      (let P : ℕ → Type 0 = λ i. (l ≤ h) × (IsAmong i ns ⊎ HasParent d l i) in
      subst P (sym e) (new l (ap d.level (sym e) ∙ is)))
  | inr other ↦
      (let old = placed x l (was x l is other) in (
        old.0,
        elim old.1 [
          | inl top ↦ inl top
          | inr p ↦ (let q = still p.parent (suc l) x p.level p.names in inr (record { parent = q.by; level = q.level; names = q.names }))
        ],
      ))
]

-- A block was divided: what was named is named still.
module _ (c d : IndexBlocks) (l n m p : ℕ) (h : IsDivided c d l n m p) (stay : (q j : ℕ) → c.level q ≡ Some j → q ≢ n → q ≢ p → (d.level q ≡ Some j) × (d.entries q ≡ c.entries q))
    (level_n : c.level n ≡ Some l) (level_p : c.level p ≡ Some (suc l)) where
  named-halves : (x : ℕ) → IsAmong x (named (c.entries n)) → IsNamedOn d l x
  named-halves x a =
      let A : List ℕ → Type 0 = λ t. IsAmong x t in
      let last : List Entry = h.last ∷ [] in
      let low : named (d.entries n) ≡ named h.before ++ named last = ap named h.low ∙ named-append h.before last in
      elim (among-parts x (named h.before) (named (h.last ∷ h.behind)) (subst A (ap named h.was ∙ named-append h.before (h.last ∷ h.behind)) a)) [
        | inl front ↦ record { by = n; level = h.levels.0; names = subst A (sym low) (among-left x (named h.before) (named last) front) }
        | inr (inl e) ↦ record { by = n; level = h.levels.0; names = subst A (sym low) (among-right x (named h.before) (named last) (inl e)) }
        | inr (inr back) ↦ record { by = m; level = h.levels.1; names = subst A (sym (ap named h.high)) back }
      ]

  named-upper : (x : ℕ) → IsAmong x (named (c.entries p)) → IsAmong x (named (d.entries p))
  named-upper x a =
      let A : List ℕ → Type 0 = λ t. IsAmong x t in
      let one : Entry = record { key = h.last.key; address = n } in
      let two : Entry = record { key = h.entry.key; address = m } in
      let rest : List Entry = one ∷ two ∷ h.back in
      let is : named (d.entries p) ≡ named h.front ++ named rest = ap named h.named_is ∙ named-append h.front rest in
      elim (among-parts x (named h.front) (named (h.entry ∷ h.back)) (subst A (ap named h.named_was ∙ named-append h.front (h.entry ∷ h.back)) a)) [
        | inl front ↦ subst A (sym is) (among-left x (named h.front) (named rest) front)
        | inr (inl e) ↦ subst A (sym is) (among-right x (named h.front) (named rest) (inl (e ∙ h.child)))
        | inr (inr back) ↦ subst A (sym is) (among-right x (named h.front) (named rest) (inr (inr back)))
      ]

  pub still-named : (q j x : ℕ) → c.level q ≡ Some j → IsAmong x (named (c.entries q)) → IsNamedOn d j x
  still-named q j x is a = elim (cases_eq q n) [
    | inl e ↦
        (let A : ℕ → Type 0 = λ i. IsAmong x (named (c.entries i)) in
        let N : ℕ → Type 0 = λ i. IsNamedOn d i x in
        subst N (level-is c l j n level_n (ap c.level (sym e) ∙ is)) (named-halves x (subst A e a)))
    | inr other ↦ elim (cases_eq q p) [
      | inl e ↦
          (let A : ℕ → Type 0 = λ i. IsAmong x (named (c.entries i)) in
          let N : ℕ → Type 0 = λ i. IsNamedOn d i x in
          subst N (level-is c (suc l) j p level_p (ap c.level (sym e) ∙ is)) (record { by = p; level = h.levels.2; names = named-upper x (subst A e a) }))
      | inr apart ↦
          (let s = stay q j is other apart in
          let A : List Entry → Type 0 = λ t. IsAmong x (named t) in
          record { by = q; level = s.0; names = subst A (sym s.1) a })
    ]
  ]

  -- and the new block has a parent
  pub new-named : IsAmong m (named (d.entries p))
  new-named =
      let A : List ℕ → Type 0 = λ t. IsAmong m t in
      let one : Entry = record { key = h.last.key; address = n } in
      let two : Entry = record { key = h.entry.key; address = m } in
      let rest : List Entry = one ∷ two ∷ h.back in
      subst A (sym (ap named h.named_is ∙ named-append h.front rest)) (among-right m (named h.front) (named rest) (inr (inl refl)))

-- A block was divided: each block has its place.
pub divided-placed : (c d : IndexBlocks) (h l n m p : ℕ) (ns : List ℕ) → IsDivided c d l n m p → ArePlaced c h ns → suc l ≤ h → ((x j : ℕ) → d.level x ≡ Some j → x ≢ m → c.level x ≡ Some j)
    → ((q j : ℕ) → c.level q ≡ Some j → q ≢ n → q ≢ p → (d.level q ≡ Some j) × (d.entries q ≡ c.entries q)) → c.level n ≡ Some l → c.level p ≡ Some (suc l) → ArePlaced d h ns
divided-placed c d h l n m p ns x placed low was stay level_n level_p =
    placed-on c d h m ns placed was (still-named c d l n m p x stay level_n level_p) (λ j is.
    let e = level-is d l j m x.levels.1 is in
    (omega arith, inr (record { parent = p; level = x.levels.2 ∙ ap (λ (i : ℕ). Some (suc i)) e; names = new-named c d l n m p x stay level_n level_p })))

-- A new top stands over the old one: each block has its place.
pub topped-placed : (c d : IndexBlocks) (h top new : ℕ) → ArePlaced c h (top ∷ []) → c.level top ≡ Some h → (d.level new ≡ Some (suc h)) × IsAmong top (named (d.entries new))
    → ((x l : ℕ) → d.level x ≡ Some l → x ≢ new → c.level x ≡ Some l) → ((q j : ℕ) → c.level q ≡ Some j → (d.level q ≡ Some j) × (d.entries q ≡ c.entries q)) → ArePlaced d (suc h) (new ∷ [])
topped-placed c d h top new placed level is was stay x l at = elim (cases_eq x new) [
  | inl e ↦ (let same = level-is d (suc h) l new is.0 (ap d.level (sym e) ∙ at) in (omega arith, inl (inl e)))
  | inr other ↦
      (let old = placed x l (was x l at other) in
      let low = old.0 in (
        omega arith,
        inr (elim old.1 [
          | inl (inl e) ↦
              (let same = level-is c h l top level (ap c.level (sym e) ∙ was x l at other) in
              let A : ℕ → Type 0 = λ i. IsAmong i (named (d.entries new)) in
              record { parent = new; level = is.0 ∙ ap (λ (i : ℕ). Some (suc i)) same; names = subst A (sym e) is.1 })
          | inl (inr no-more) ↦ absurd no-more
          | inr p ↦ (let s = stay p.parent (suc l) p.level in let A : List Entry → Type 0 = λ t. IsAmong x (named t) in record { parent = p.parent; level = s.0; names = subst A (sym s.1) p.names })
        ]),
      ))
]
