-- The chains of all levels of an index.
use Rattle.std.proofs.Common.{◌≡◌, ◌≢◌, inl, inr, ℕ, zero, suc, ◌+◌, ◌<◌, ◌≤◌, List, [], ◌∷◌, ◌++◌, Some, refl, sym, ap, ◌∙◌, subst, arith}
use Rattle.hd_volume.specs.Entries.{Entry}
use Rattle.hd_volume.specs.Indexes.{IsAmong}
use Rattle.hd_index_blocks.specs.Levels.{IndexBlocks, across, named, IsIndexSet}
use Rattle.hd_index_blocks.specs.Ways.{IsWayDown}
use Rattle.hd_index_blocks.specs.Changes.{LowerStay, UpperStay, IsDivided}
use Rattle.hd_index_blocks.specs.Chains.{IsLinked, first_of, AreLevelsLinked}
use Rattle.hd_index_blocks.specs.Linking.{DivisionsStayLinked, WaysStayLinked}
use Rattle.hd_index_blocks.proofs.Chains.{linked-same, linked-new}
use Rattle.hd_index_blocks.proofs.Levels.{AllStay, across-about, named-append, on-parts, set-level, stay-across, lower-stay, upper-stay}
use Rattle.hd_index_blocks.proofs.Sets.{blocks-once}
use Rattle.hd_index_blocks.proofs.Descents.{names-of}
use Rattle.hd_index_blocks.proofs.Entering.{beside}
use Rattle.hd_index_blocks.proofs.Dividing.{across-divided}
use Rattle.hd_index_blocks.proofs.Downs.{among-right, of-level, level-is}

-- levels below one stay chains, where their blocks stay and name what they named
pub links-lower : (c d : IndexBlocks) (l : ℕ) (old new : ℕ → ℕ) → LowerStay c d l → ((x j : ℕ) → c.level x ≡ Some j → j < l → new x ≡ old x) → (i : ℕ) → i < l
    → (ns : List ℕ) → IsIndexSet c i ns → AreLevelsLinked c old i ns → AreLevelsLinked d new i ns
links-lower c d l old new lower same zero less ns s h = linked-same old new (first_of ns) ns (λ x a. (let o = of-level c 0 x ns s a in same x 0 o.level less)) h
links-lower c d l old new lower same (suc i) less ns s h =
    let L : List Entry → Type 0 = λ t. AreLevelsLinked d new i (named t) in (
      linked-same old new (first_of ns) ns (λ x a. (let o = of-level c (suc i) x ns s a in same x (suc i) o.level less)) h.0,
      subst L (sym (stay-across c d (suc i) ns (lower-stay c d l (suc i) ns lower less s.0))) (links-lower c d l old new lower same i (omega arith) (named (across c ns)) s.2 h.1),
    )

-- the chain of one level
chain-of : (c : IndexBlocks) (next : ℕ → ℕ) (l : ℕ) (ns : List ℕ) → AreLevelsLinked c next l ns → IsLinked next (first_of ns) ns
chain-of c next zero ns h = h
chain-of c next (suc l) ns h = h.0

first-same : (xs : List ℕ) (n : ℕ) (ys zs : List ℕ) → first_of (xs ++ (n ∷ ys)) ≡ first_of (xs ++ (n ∷ zs))
first-same [] n ys zs = refl
first-same (x ∷ xs) n ys zs = refl

module _ (c d : IndexBlocks) (old new : ℕ → ℕ) (l n m p : ℕ) (h : IsDivided c d l n m p) (some : m ≢ 0) (low : new n ≡ m) (high : new m ≡ old n)
    (same : (x j : ℕ) → c.level x ≡ Some j → x ≢ n → new x ≡ old x) where
  -- the chain of the divided block's level
  chain-divided : (i : ℕ) (xs ys : List ℕ) → IsIndexSet c i (xs ++ (n ∷ ys)) → IsLinked old (first_of (xs ++ (n ∷ ys))) (xs ++ (n ∷ ys))
      → IsLinked new (first_of (xs ++ (n ∷ m ∷ ys))) (xs ++ (n ∷ m ∷ ys))
  chain-divided i xs ys s g =
      let L : ℕ → Type 0 = λ t. IsLinked new t (xs ++ (n ∷ m ∷ ys)) in
      subst L (first-same xs n ys (m ∷ ys))
      (linked-new old new (first_of (xs ++ (n ∷ ys))) xs n m ys g some low high (λ x a other. (let o = of-level c i x (xs ++ (n ∷ ys)) s a in same x i o.level other)))

  -- and all below it
  levels-divided : (i : ℕ) → i ≡ l → (xs ys : List ℕ) → AllStay c d i xs → AllStay c d i ys → IsIndexSet c i (xs ++ (n ∷ ys)) → AreLevelsLinked c old i (xs ++ (n ∷ ys))
      → AreLevelsLinked d new i (xs ++ (n ∷ m ∷ ys))
  levels-divided zero e xs ys kx ky s g = chain-divided zero xs ys s g
  levels-divided (suc i) e xs ys kx ky s g =
      let own = of-level c (suc i) n (xs ++ (n ∷ ys)) s (among-right n xs (n ∷ ys) (inl refl)) in
      let other : (x j : ℕ) → c.level x ≡ Some j → j < suc i → new x ≡ old x =
      λ x j is less. same x j is (λ eq. (let f = level-is c (suc i) j n own.level (ap c.level (sym eq) ∙ is) in absurd (omega arith))) in
      let L : List Entry → Type 0 = λ t. AreLevelsLinked d new i (named t) in
      let B : ℕ → Type 0 = λ t. LowerStay c d t in (
        chain-divided (suc i) xs ys s g.0,
        subst L (sym (across-divided c d l n m p h (suc i) xs ys kx ky))
            (links-lower c d (suc i) old new (subst B (sym e) h.lower) other i (omega arith) (named (across c (xs ++ (n ∷ ys)))) s.2 g.1),
      )

  pub division : (left right : List ℕ) → IsIndexSet c (suc l) (left ++ (p ∷ right)) → AreLevelsLinked c old (suc l) (left ++ (p ∷ right))
      → AreLevelsLinked d new (suc l) (left ++ (p ∷ right))
  division left right s g =
      let X : List Entry = across c left ++ h.front in
      let Y : List Entry = h.back ++ across c right in
      let one : Entry = record { key = h.last.key; address = n } in
      let two : Entry = record { key = h.entry.key; address = m } in
      let on = on-parts c (suc l) left (p ∷ right) s.0 in
      let once = blocks-once c (suc l) left p right s in
      let names_was : named (across c (left ++ (p ∷ right))) ≡ named X ++ (n ∷ named Y) =
      ap named (across-about c left p right h.front (h.entry ∷ []) h.back h.named_was) ∙ named-append X (h.entry ∷ Y) ∙ ap (λ (i : ℕ). named X ++ (i ∷ named Y)) h.child in
      let names_is : named (across d (left ++ (p ∷ right))) ≡ named X ++ (n ∷ m ∷ named Y) =
      ap named (across-about d left p right h.front (one ∷ two ∷ []) h.back h.named_is)
      ∙ ap (λ (t : List Entry). named ((t ++ h.front) ++ (one ∷ two ∷ (h.back ++ across d right)))) (stay-across c d (suc l) left (beside c d (suc l) p left h.above on.0 once.0))
      ∙ ap (λ (t : List Entry). named (X ++ (one ∷ two ∷ (h.back ++ t)))) (stay-across c d (suc l) right (beside c d (suc l) p right h.above on.1.2 once.1))
      ∙ named-append X (one ∷ two ∷ Y) in
      let S : List ℕ → Type 0 = λ t. IsIndexSet c l t in
      let G : List ℕ → Type 0 = λ t. AreLevelsLinked c old l t in
      let L : List ℕ → Type 0 = λ t. AreLevelsLinked d new l t in
      let below = subst S names_was s.2 in
      let on_below = on-parts c l (named X) (n ∷ named Y) (set-level c l (named X ++ (n ∷ named Y)) below) in
      let once_below = blocks-once c l (named X) n (named Y) below in
      let down = levels-divided l refl (named X) (named Y) (beside c d l n (named X) h.beside on_below.0 once_below.0) (beside c d l n (named Y) h.beside on_below.1.2 once_below.1) below (subst G names_was g.1) in
      let own = of-level c l n (named X ++ (n ∷ named Y)) below (among-right n (named X) (n ∷ named Y) (inl refl)) in (
        linked-same old new (first_of (left ++ (p ∷ right))) (left ++ (p ∷ right))
            (λ x a. (let o = of-level c (suc l) x (left ++ (p ∷ right)) s a in
            same x (suc l) o.level (λ eq. (let f = level-is c l (suc l) n own.level (ap c.level (sym eq) ∙ o.level) in absurd (omega arith)))))
            g.0,
        subst L (sym names_is) down,
      )

pub divisions-linked : DivisionsStayLinked
divisions-linked c d old new l n m p left right h s g some low high same = division c d old new l n m p h some low high same left right s g

-- ---- above a change

-- the levels from one on the way down are chains
pub levels-on : (c : IndexBlocks) (next : ℕ → ℕ) (h top : ℕ) (key : List ℕ) (steps l : ℕ) (left : List ℕ) (n : ℕ) (right : List ℕ) → IsWayDown c h top key steps l left n right
    → AreLevelsLinked c next h (top ∷ []) → AreLevelsLinked c next l (left ++ (n ∷ right))
levels-on c next h top key zero l left n right way g =
    let L : ℕ → List ℕ → Type 0 = λ i ns. AreLevelsLinked c next i ns in
    let is : left ++ (n ∷ right) ≡ top ∷ [] = ap (λ (t : List ℕ). t ++ (n ∷ right)) way.1 ∙ ap (λ (i : ℕ). i ∷ right) way.2 ∙ ap (λ (t : List ℕ). top ∷ t) way.3 in
    subst (λ (i : ℕ). L i (left ++ (n ∷ right))) (sym way.0) (subst (L h) (sym is) g)
levels-on c next h top key (suc steps) l left n right way g =
    let left_up = way.0 in let p = way.1 in let right_up = way.2 in let s = way.3 in
    let up = levels-on c next h top key steps (suc l) left_up p right_up way.7 g in
    let L : List ℕ → Type 0 = λ ns. AreLevelsLinked c next l ns in
    subst L (names-of c left n right left_up p right_up s) up.1

pub ways-linked : WaysStayLinked
ways-linked c d old new h top key zero l left n right way g upper same low =
    let L : ℕ → List ℕ → Type 0 = λ i ns. AreLevelsLinked d new i ns in
    let is : left ++ (n ∷ right) ≡ top ∷ [] = ap (λ (t : List ℕ). t ++ (n ∷ right)) way.1 ∙ ap (λ (i : ℕ). i ∷ right) way.2 ∙ ap (λ (t : List ℕ). top ∷ t) way.3 in
    subst (λ (i : ℕ). L i (top ∷ [])) way.0 (subst (L l) is low)
ways-linked c d old new h top key (suc steps) l left n right way g upper same low =
    let left_up = way.0 in let p = way.1 in let right_up = way.2 in let s = way.3 in
    let set = way.6 in
    let up = levels-on c old h top key steps (suc l) left_up p right_up way.7 g in
    let stay = upper-stay c d l (suc l) (left_up ++ (p ∷ right_up)) upper (omega arith) set.0 in
    let L : List ℕ → Type 0 = λ ns. AreLevelsLinked d new l ns in
    let names : named (across d (left_up ++ (p ∷ right_up))) ≡ left ++ (n ∷ right) =
    ap named (stay-across c d (suc l) (left_up ++ (p ∷ right_up)) stay) ∙ names-of c left n right left_up p right_up s in
    let chain = linked-same old new (first_of (left_up ++ (p ∷ right_up))) (left_up ++ (p ∷ right_up))
    (λ x a. (let o = of-level c (suc l) x (left_up ++ (p ∷ right_up)) set a in same x (suc l) o.level (omega arith))) up.0 in
    ways-linked c d old new h top key steps (suc l) left_up p right_up way.7 g (λ x j is less. upper x j is (omega arith)) (λ x j is less. same x j is (omega arith))
    (chain, subst L (sym names) low)
