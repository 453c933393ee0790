-- Down from the top by a key: what holds where the key comes to, and passes from each level to the one above, holds at the top.
use Rattle.std.proofs.Common.{◌≡◌, ℕ, zero, suc, ◌+◌, ◌<◌, ◌≤◌, List, [], ◌∷◌, ◌++◌, Some, refl, sym, ap, ◌∙◌, subst, arith}
use Rattle.hd_volume.specs.Entries.{Entry}
use Rattle.hd_volume.specs.Indexes.{IsAmong}
use Rattle.hd_index_blocks.specs.Levels.{IndexBlocks, across, named, IsIndexSet}
use Rattle.hd_index_blocks.specs.Ways.{child_of, leaf_of, IsAround}
use Rattle.hd_index_blocks.specs.Changes.{UpperStay, KeepsIndexSet}
use Rattle.hd_index_blocks.specs.Chains.{first_of, AreLevelsLinked}
use Rattle.hd_index_blocks.proofs.Levels.{stay-across, upper-stay}
use Rattle.hd_index_blocks.proofs.Chains.{linked-same}
use Rattle.hd_index_blocks.proofs.Staying.{keeps-up}
use Rattle.hd_index_blocks.proofs.Downs.{of-level, child-named, named-across}
use Rattle.hd_index_blocks.proofs.Descents.{stepped, names-of, top-around}

-- what holds of the level where so many steps down by a key come to, and passes from each level to the one above, holds of the level where they begin
pub lifted : (c : IndexBlocks) (key : List ℕ) (P : ℕ → List ℕ → Type 0) (j : ℕ) → ((l : ℕ) (ns : List ℕ) → j ≤ l → IsIndexSet c (suc l) ns → P l (named (across c ns)) → P (suc l) ns)
    → (steps i : ℕ) (left : List ℕ) (n : ℕ) (right : List ℕ) → i ≡ steps + j → IsAround c key i left n right
    → ((before behind : List ℕ) → IsAround c key j before (leaf_of c key steps n) behind → P j (before ++ (leaf_of c key steps n ∷ behind))) → P i (left ++ (n ∷ right))
lifted c key P j up zero i left n right e a here =
    let e' : i ≡ j = omega arith in
    let A : ℕ → Type 0 = λ t. IsAround c key t left n right in
    let Q : ℕ → Type 0 = λ t. P t (left ++ (n ∷ right)) in
    subst Q (sym e') (here left right (subst A e' a))
lifted c key P j up (suc steps) zero left n right e a here = absurd (omega arith)
lifted c key P j up (suc steps) (suc i) left n right e a here =
    let s = stepped c key i left n right a in
    let m : ℕ = child_of key (c.entries n) in
    let low = lifted c key P j up steps i s.before m s.behind (omega arith) s.around here in
    let N : List ℕ → Type 0 = λ t. P i t in
    up i (left ++ (n ∷ right)) (omega arith) a.set (subst N (sym (names-of c s.before m s.behind left n right s.named_by)) low)

-- A level is changed and still is an index set with the same entries below each block, its chains and those below it too; the blocks above stay
-- and name what they named: so it is with the top.
pub change-lifted : (c d : IndexBlocks) (old new : ℕ → ℕ) (key : List ℕ) (j : ℕ) → UpperStay c d j → ((x i : ℕ) → c.level x ≡ Some i → j < i → new x ≡ old x)
    → (steps h top : ℕ) → h ≡ steps + j → IsIndexSet c h (top ∷ []) → AreLevelsLinked c old h (top ∷ [])
    → ((before behind : List ℕ) → IsAround c key j before (leaf_of c key steps top) behind → AreLevelsLinked c old j (before ++ (leaf_of c key steps top ∷ behind))
    → KeepsIndexSet c d j (before ++ (leaf_of c key steps top ∷ behind)) × AreLevelsLinked d new j (before ++ (leaf_of c key steps top ∷ behind)))
    → KeepsIndexSet c d h (top ∷ []) × AreLevelsLinked d new h (top ∷ [])
change-lifted c d old new key j upper same steps h top e set linked here =
    lifted c key (λ i ns. AreLevelsLinked c old i ns → KeepsIndexSet c d i ns × AreLevelsLinked d new i ns) j up steps h [] top [] e (top-around c key h top set) here linked
  where
    up : (l : ℕ) (ns : List ℕ) → j ≤ l → IsIndexSet c (suc l) ns → (AreLevelsLinked c old l (named (across c ns)) → KeepsIndexSet c d l (named (across c ns)) × AreLevelsLinked d new l (named (across c ns)))
        → AreLevelsLinked c old (suc l) ns → KeepsIndexSet c d (suc l) ns × AreLevelsLinked d new (suc l) ns
    up l ns low s f g =
        let r = f g.1 in
        let stay = upper-stay c d j (suc l) ns upper (omega arith) s.0 in
        let L : List Entry → Type 0 = λ t. AreLevelsLinked d new l (named t) in
        let chain = linked-same old new (first_of ns) ns (λ x a. (let o = of-level c (suc l) x ns s a in same x (suc l) o.level (omega arith))) g.0 in
        (keeps-up c d l ns stay s r.0, (chain, subst L (sym (stay-across c d (suc l) ns stay)) r.1))

-- a block that so many steps down by a key come to stands about the key
pub around-below : (c : IndexBlocks) (key : List ℕ) (j steps i : ℕ) (left : List ℕ) (n : ℕ) (right : List ℕ) → i ≡ steps + j → IsAround c key i left n right
    → (before behind : List ℕ) × IsAround c key j before (leaf_of c key steps n) behind
around-below c key j zero i left n right e a =
    let A : ℕ → Type 0 = λ t. IsAround c key t left n right in
    (left, right, subst A (let e' : i ≡ j = omega arith in e') a)
around-below c key j (suc steps) zero left n right e a = absurd (omega arith)
around-below c key j (suc steps) (suc i) left n right e a =
    let s = stepped c key i left n right a in
    around-below c key j steps i s.before (child_of key (c.entries n)) s.behind (omega arith) s.around

-- where the blocks above a level stay, so many steps down to it come to the same block
pub leaf-upper : (c d : IndexBlocks) (key : List ℕ) (j : ℕ) → UpperStay c d j → (steps i n : ℕ) (ns : List ℕ) → i ≡ steps + j → IsIndexSet c i ns → IsAmong n ns
    → leaf_of d key steps n ≡ leaf_of c key steps n
leaf-upper c d key j upper zero i n ns e s among = refl
leaf-upper c d key j upper (suc steps) zero n ns e s among = absurd (omega arith)
leaf-upper c d key j upper (suc steps) (suc i) n ns e s among =
    let o = of-level c (suc i) n ns s among in
    let same = (upper n (suc i) o.level (omega arith)).1 in
    ap (λ (es : List Entry). leaf_of d key steps (child_of key es)) same
    ∙ leaf-upper c d key j upper steps i (child_of key (c.entries n)) (named (across c ns)) (omega arith) s.2 (named-across c (child_of key (c.entries n)) n ns among (child-named key (c.entries n) o.some))
