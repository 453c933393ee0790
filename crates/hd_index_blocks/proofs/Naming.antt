-- Blocks that keep their levels and what they name, though their keys may change.
use Rattle.std.proofs.Common.{◌≡◌, inl, inr, ℕ, zero, suc, List, [], ◌∷◌, ◌++◌, length, Some, refl, sym, ap, ◌∙◌, subst}
use Rattle.std.specs.Prelude.{slice_get}
use Rattle.hd_volume.specs.Entries.{Entry}
use Rattle.hd_volume.specs.Indexes.{IsAmong}
use Rattle.hd_index_blocks.specs.Levels.{IndexBlocks, across, named, IsIndexSet}
use Rattle.hd_index_blocks.specs.Chains.{first_of, AreLevelsLinked}
use Rattle.hd_index_blocks.specs.Parents.{ArePlaced}
use Rattle.hd_index_blocks.specs.VolumeLaws.{StandOnce}
use Rattle.hd_index_blocks.proofs.Levels.{named-append, across-append}
use Rattle.hd_index_blocks.proofs.Chains.{linked-same}
use Rattle.hd_index_blocks.proofs.Downs.{of-level, level-once, among-left}

-- ---- what is named

-- Each block keeps its level and names the next one that it named, each upper block names the blocks that it named, and none has come.
pub record KeepNames (c d : IndexBlocks) (old new : ℕ → ℕ) : Type 0 where
  pub on : (n l : ℕ) → c.level n ≡ Some l → (d.level n ≡ Some l) × (new n ≡ old n)
  pub was : (n l : ℕ) → d.level n ≡ Some l → c.level n ≡ Some l
  pub names : (n l : ℕ) → c.level n ≡ Some (suc l) → named (d.entries n) ≡ named (c.entries n)

names-across : (c d : IndexBlocks) (ns : List ℕ) → ((n : ℕ) → IsAmong n ns → named (d.entries n) ≡ named (c.entries n)) → named (across d ns) ≡ named (across c ns)
names-across c d [] h = refl
names-across c d (n ∷ ns) h =
    named-append (d.entries n) (across d ns) ∙ ap (λ (t : List ℕ). t ++ named (across d ns)) (h n (inl refl))
    ∙ ap (λ (t : List ℕ). named (c.entries n) ++ t) (names-across c d ns (λ m a. h m (inr a))) ∙ sym (named-append (c.entries n) (across c ns))

-- a level names the same blocks
pub level-names : (c d : IndexBlocks) (old new : ℕ → ℕ) (l : ℕ) (ns : List ℕ) → KeepNames c d old new → IsIndexSet c (suc l) ns → named (across d ns) ≡ named (across c ns)
level-names c d old new l ns k s = names-across c d ns (λ n a. (let o = of-level c (suc l) n ns s a in k.names n l o.level))

-- all levels stay chains
pub links-kept : (c d : IndexBlocks) (old new : ℕ → ℕ) → KeepNames c d old new → (l : ℕ) (ns : List ℕ) → IsIndexSet c l ns → AreLevelsLinked c old l ns → AreLevelsLinked d new l ns
links-kept c d old new k zero ns s h = linked-same old new (first_of ns) ns (λ x a. (let o = of-level c 0 x ns s a in (k.on x 0 o.level).1)) h
links-kept c d old new k (suc l) ns s h =
    let L : List ℕ → Type 0 = λ t. AreLevelsLinked d new l t in (
      linked-same old new (first_of ns) ns (λ x a. (let o = of-level c (suc l) x ns s a in (k.on x (suc l) o.level).1)) h.0,
      subst L (sym (level-names c d old new l ns k s)) (links-kept c d old new k l (named (across c ns)) s.2 h.1),
    )

-- each block has the parent that it had
pub placed-kept : (c d : IndexBlocks) (old new : ℕ → ℕ) → KeepNames c d old new → (h : ℕ) (ns : List ℕ) → ArePlaced c h ns → ArePlaced d h ns
placed-kept c d old new k h ns p n l is =
    let o = p n l (k.was n l is) in (
      o.0,
      elim o.1 [
        | inl a ↦ inl a
        | inr q ↦
            (let A : List ℕ → Type 0 = λ t. IsAmong n t in
            inr (record { parent = q.parent; level = (k.on q.parent (suc l) q.level).0; names = subst A (sym (k.names q.parent l q.level)) q.names }))
      ],
    )

-- ---- the entry that names a block

get-named : (es : List Entry) (j : ℕ) (x : Entry) → slice_get es j ≡ Some x → IsAmong x.address (named es)
get-named [] j x h = absurd (cc)
get-named (e ∷ es) zero x h = let one : e ≡ x = cc in inl (ap (λ (t : Entry). t.address) (sym one))
get-named (e ∷ es) (suc j) x h = inr (get-named es j x h)

named-amid : (front : List Entry) (e : Entry) (back : List Entry) → IsAmong e.address (named (front ++ (e ∷ back)))
named-amid [] e back = inl refl
named-amid (f ∷ front) e back = inr (named-amid front e back)

once-front : (xs ys : List ℕ) → StandOnce (xs ++ ys) → StandOnce xs
once-front [] ys h = tt
once-front (x ∷ xs) ys h = ((λ a. h.0 (among-left x xs ys a)), once-front xs ys h.1)

once-behind : (xs ys : List ℕ) → StandOnce (xs ++ ys) → StandOnce ys
once-behind [] ys h = h
once-behind (x ∷ xs) ys h = once-behind xs ys h.1

-- a block of an index set names each block once
pub names-once : (c : IndexBlocks) (l : ℕ) (left : List ℕ) (p : ℕ) (right : List ℕ) → IsIndexSet c (suc l) (left ++ (p ∷ right)) → StandOnce (named (c.entries p))
names-once c l left p right s =
    let O : List ℕ → Type 0 = λ t. StandOnce t in
    let all = level-once c l (named (across c (left ++ (p ∷ right)))) s.2 in
    let row : named (across c (left ++ (p ∷ right))) ≡ named (across c left) ++ (named (c.entries p) ++ named (across c right)) =
    ap named (across-append c left (p ∷ right)) ∙ named-append (across c left) (c.entries p ++ across c right)
    ∙ ap (λ (t : List ℕ). named (across c left) ++ t) (named-append (c.entries p) (across c right)) in
    once-front (named (c.entries p)) (named (across c right))
    (once-behind (named (across c left)) (named (c.entries p) ++ named (across c right)) (subst O row all))

-- so one entry alone names a block
pub entry-once : (front : List Entry) (e : Entry) (back : List Entry) (i : ℕ) (x : Entry) → StandOnce (named (front ++ (e ∷ back))) → slice_get (front ++ (e ∷ back)) i ≡ Some x
    → x.address ≡ e.address → (x ≡ e) × (i ≡ length front)
entry-once [] e back zero x once h same = (cc, refl)
entry-once [] e back (suc j) x once h same = let A : ℕ → Type 0 = λ t. IsAmong t (named back) in absurd (once.0 (subst A same (get-named back j x h)))
entry-once (f ∷ front) e back zero x once h same =
    let one : f ≡ x = cc in
    let A : ℕ → Type 0 = λ t. IsAmong t (named (front ++ (e ∷ back))) in
    absurd (once.0 (subst A (sym same ∙ ap (λ (t : Entry). t.address) (sym one)) (named-amid front e back)))
entry-once (f ∷ front) e back (suc j) x once h same = let r = entry-once front e back j x once.1 h same in (r.0, ap (λ (t : ℕ). suc t) r.1)
