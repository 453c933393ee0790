-- What the records say at their addresses is one forest.
use Rattle.std.proofs.Common.{◌≡◌, ℕ, None, ◌<◌, List, arith, ap, sym, ◌∙◌, refl, inl, inr}
use Rattle.std.proofs.lemmas.Bool.{cases_eq, cases_order, cases_Bool, eq-eqb, ne_eqb, cond-true, cond-false, false≢true}
use Rattle.hd_dbd.specs.Types.{SegmentType}
use Rattle.hd_dbd.specs.Forest.{Forest, empty, node}
use Rattle.hd_links.specs.Links.{Links, is_child_type}
use Rattle.hd_links.specs.Placed.{Placed, first_of, nowhere, with_node, NodesLie, Holds}
use Rattle.hd_links.proofs.Types.{Ordered}
use Rattle.hd_links.proofs.Forms.{Formed, low, none_of, formed}

-- first ones alike, one forest
pub same : (types : List SegmentType) (m : Links) (c d : ℕ) (tf tg : ℕ → ℕ) (f g : Forest Placed)
    → NodesLie types m tf f → NodesLie types m tg g → Formed types c f → Formed types d g
    → ((t : ℕ) → first_of f t ≡ first_of g t) → f ≡ g
same types m c d tf tg empty empty lf lg ff fg e = refl
same types m c d tf tg empty (node s k2 n2) lf lg ff fg e =
    absurd (let h : 0 ≡ s.address = e s.segment.code ∙ cond-true _ _ _ (eq-eqb s.segment.code s.segment.code refl) in let p : 0 < s.address = lg.0.there.some in omega arith)
same types m c d tf tg (node r k n) empty lf lg ff fg e =
    absurd (let h : 0 ≡ r.address = sym (e r.segment.code) ∙ cond-true _ _ _ (eq-eqb r.segment.code r.segment.code refl) in let p : 0 < r.address = lf.0.there.some in omega arith)
same types m c d tf tg (node r k n) (node s k2 n2) lf lg ff fg e =
    let own_r : first_of (node r k n) r.segment.code ≡ r.address = cond-true _ _ _ (eq-eqb r.segment.code r.segment.code refl) in
    let own_s : first_of (node s k2 n2) s.segment.code ≡ s.address = cond-true _ _ _ (eq-eqb s.segment.code s.segment.code refl) in
    let pr : 0 < r.address = lf.0.there.some in
    let ps : 0 < s.address = lg.0.there.some in
    let codes : r.segment.code ≡ s.segment.code = elim (cases_order r.segment.code s.segment.code) [
      | inl q ↦ q
      | inr w ↦ elim w [
        | inl q ↦ absurd (let z : first_of (node s k2 n2) r.segment.code ≡ 0 = low types d s k2 n2 r.segment.code fg q in let y : r.address ≡ 0 = sym own_r ∙ e r.segment.code ∙ z in omega arith)
        | inr q ↦ absurd (let z : first_of (node r k n) s.segment.code ≡ 0 = low types c r k n s.segment.code ff q in let y : s.address ≡ 0 = sym own_s ∙ sym (e s.segment.code) ∙ z in omega arith)
      ]
    ] in
    let addresses : r.address ≡ s.address = sym own_r ∙ e r.segment.code ∙ ap (first_of (node s k2 n2)) codes ∙ own_s in
    let bytes : r.segment.bytes ≡ s.segment.bytes = sym lf.0.bytes ∙ ap m.bytes addresses ∙ lg.0.bytes in
    let segments : r.segment ≡ s.segment = (λ i. record { code = codes i; bytes = bytes i }) in
    let rows : r ≡ s = (λ i. record { address = addresses i; segment = segments i }) in
    let kids : k ≡ k2 = same types m r.segment.code s.segment.code nowhere nowhere k k2 lf.1 lg.1 ff.2 fg.2
    (λ t. elim (cases_Bool (is_child_type types r.segment.code t)) [
      | inl q ↦ sym (lf.0.children.first t q) ∙ ap (λ a. m.first_child a t) addresses ∙ lg.0.children.first t (ap (λ x. is_child_type types x t) (sym codes) ∙ q)
      | inr q ↦ none_of types r.segment.code t k ff.2 (λ w. false≢true (sym q ∙ w))
          ∙ sym (none_of types s.segment.code t k2 fg.2 (λ w. false≢true (sym q ∙ ap (λ x. is_child_type types x t) codes ∙ w)))
    ]) in
    let nexts : n ≡ n2 = same types m c d (with_node tf r) (with_node tg s) n n2 lf.2 lg.2 ff.3 fg.3
    (λ t. elim (cases_eq r.segment.code t) [
      | inl q ↦ ap (first_of n) (sym q) ∙ sym lf.0.forward ∙ ap m.forward addresses ∙ lg.0.forward ∙ ap (first_of n2) (sym codes ∙ q)
      | inr q ↦ sym (cond-false _ _ _ (ne_eqb r.segment.code t q)) ∙ e t ∙ cond-false _ _ _ (ne_eqb s.segment.code t (λ z. q (codes ∙ z)))
    ]) in
    λ i. node (rows i) (kids i) (nexts i)

-- the records hold one forest at most
pub unique : (types : List SegmentType) (O : Ordered types) (m : Links) (f g : Forest Placed) → Holds types m f → Holds types m g → f ≡ g
unique types O m f g hf hg =
    let ff : Formed types 0 f = formed types O 0 None f hf.fits in
    let fg : Formed types 0 g = formed types O 0 None g hg.fits in
    same types m 0 0 nowhere nowhere f g hf.lies.nodes hg.lies.nodes ff fg
    (λ t. elim (cases_Bool (is_child_type types 0 t)) [
      | inl q ↦ sym (hf.lies.roots.first t q) ∙ hg.lies.roots.first t q
      | inr q ↦ none_of types 0 t f ff (λ w. false≢true (sym q ∙ w)) ∙ sym (none_of types 0 t g fg (λ w. false≢true (sym q ∙ w)))
    ])
