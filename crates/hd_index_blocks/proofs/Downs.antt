-- The blocks of an index set, level by level: each is right, leads to right ones, and stands once.
use Rattle.std.proofs.Common.{◌≡◌, ◌≢◌, ◌⊎◌, inl, inr, ℕ, zero, suc, ◌<◌, ◌≤◌, Bool, true, false, List, [], ◌∷◌, ◌++◌, Some, refl, sym, ap, ◌∙◌, subst, arith}
use Rattle.hd_volume.specs.Entries.{Entry}
use Rattle.hd_volume.specs.Indexes.{key_less, keys_ascend, IsAmong}
use Rattle.hd_index_blocks.specs.Levels.{IndexBlocks, across, named, blocks_down, AreOnLevel, IsIndexSet}
use Rattle.hd_index_blocks.specs.Ways.{child_of}
use Rattle.hd_index_blocks.specs.VolumeLaws.{StandOnce}
use Rattle.hd_index_blocks.proofs.Keys.{ascend-parts}
use Rattle.hd_index_blocks.proofs.Levels.{named-append, set-level}
use Rattle.hd_index_blocks.proofs.Sets.{set-behind, level-ascends, blocks-once}

-- ---- among two lists

pub among-parts : (n : ℕ) (xs ys : List ℕ) → IsAmong n (xs ++ ys) → IsAmong n xs ⊎ IsAmong n ys
among-parts n [] ys a = inr a
among-parts n (x ∷ xs) ys (inl e) = inl (inl e)
among-parts n (x ∷ xs) ys (inr a) = elim (among-parts n xs ys a) [ inl b ↦ inl (inr b) | inr b ↦ inr b ]

pub among-left : (n : ℕ) (xs ys : List ℕ) → IsAmong n xs → IsAmong n (xs ++ ys)
among-left n [] ys a = absurd a
among-left n (x ∷ xs) ys (inl e) = inl e
among-left n (x ∷ xs) ys (inr a) = inr (among-left n xs ys a)

pub among-right : (n : ℕ) (xs ys : List ℕ) → IsAmong n ys → IsAmong n (xs ++ ys)
among-right n [] ys a = a
among-right n (x ∷ xs) ys a = inr (among-right n xs ys a)

-- ---- each is right

-- A block of a level is one: not empty, and its keys ascend.
pub record IsOnLevel (c : IndexBlocks) (l n : ℕ) : Type 0 where
  pub level : c.level n ≡ Some l
  pub some : c.entries n ≢ []
  pub ascend : keys_ascend (c.entries n) ≡ true

on-level : (c : IndexBlocks) (l n : ℕ) (ns : List ℕ) → AreOnLevel c l ns → keys_ascend (across c ns) ≡ true → IsAmong n ns → IsOnLevel c l n
on-level c l n [] on a among = absurd among
on-level c l n (m ∷ ms) on a (inl e) =
    let O : ℕ → Type 0 = λ i. IsOnLevel c l i in
    subst O (sym e) (record { level = on.0; some = on.1; ascend = (ascend-parts (c.entries m) (across c ms) a).0 })
on-level c l n (m ∷ ms) on a (inr among) = on-level c l n ms on.2 (ascend-parts (c.entries m) (across c ms) a).1 among

pub of-level : (c : IndexBlocks) (l n : ℕ) (ns : List ℕ) → IsIndexSet c l ns → IsAmong n ns → IsOnLevel c l n
of-level c l n ns s among = on-level c l n ns (set-level c l ns s) (level-ascends c l ns s) among

-- A block is one of a level up to this.
pub record IsUpToLevel (c : IndexBlocks) (l n : ℕ) : Type 0 where
  pub own : ℕ
  pub low : own ≤ l
  pub on : IsOnLevel c own n

pub down-level : (c : IndexBlocks) (l n : ℕ) (ns : List ℕ) → IsIndexSet c l ns → IsAmong n (blocks_down c l ns) → IsUpToLevel c l n
down-level c zero n ns s among = record { own = 0; low = omega arith; on = of-level c zero n ns s among }
down-level c (suc l) n ns s among =
    elim (among-parts n ns (blocks_down c l (named (across c ns))) among) [
      | inl here ↦ record { own = suc l; low = omega arith; on = of-level c (suc l) n ns s here }
      | inr below ↦ (let r = down-level c l n (named (across c ns)) s.2 below in record { own = r.own; low = (let h = r.low in omega arith); on = r.on })
    ]

-- ---- each leads to right ones

-- the block that a key leads to is named
pub child-named : (key : List ℕ) (es : List Entry) → es ≢ [] → IsAmong (child_of key es) (named es)
child-named key [] some = absurd (some refl)
child-named key (e ∷ []) some = inl refl
child-named key (e ∷ f ∷ es) some = by-test (key_less e.key key) refl (child-named key (f ∷ es) (λ no. cc))
  where
    to : (m : ℕ) → child_of key (e ∷ f ∷ es) ≡ m → IsAmong m (named (e ∷ f ∷ es)) → IsAmong (child_of key (e ∷ f ∷ es)) (named (e ∷ f ∷ es))
    to m is a = let A : ℕ → Type 0 = λ i. IsAmong i (named (e ∷ f ∷ es)) in subst A (sym is) a

    by-test : (b : Bool) → key_less e.key key ≡ b → IsAmong (child_of key (f ∷ es)) (named (f ∷ es)) → IsAmong (child_of key (e ∷ f ∷ es)) (named (e ∷ f ∷ es))
    by-test true h rest = to (child_of key (f ∷ es)) (rw h refl) (inr rest)
    by-test false h rest = to e.address (rw h refl) (inl refl)

pub named-across : (c : IndexBlocks) (m n : ℕ) (ns : List ℕ) → IsAmong n ns → IsAmong m (named (c.entries n)) → IsAmong m (named (across c ns))
named-across c m n [] among a = absurd among
named-across c m n (x ∷ ns) (inl e) a =
    let A : List ℕ → Type 0 = λ t. IsAmong m t in
    subst A (sym (named-append (c.entries x) (across c ns)))
    (among-left m (named (c.entries x)) (named (across c ns)) (subst A (ap (λ (i : ℕ). named (c.entries i)) e) a))
named-across c m n (x ∷ ns) (inr among) a =
    let A : List ℕ → Type 0 = λ t. IsAmong m t in
    subst A (sym (named-append (c.entries x) (across c ns))) (among-right m (named (c.entries x)) (named (across c ns)) (named-across c m n ns among a))

pub top-down : (c : IndexBlocks) (l n : ℕ) (ns : List ℕ) → IsAmong n ns → IsAmong n (blocks_down c l ns)
top-down c zero n ns a = a
top-down c (suc l) n ns a = among-left n ns (blocks_down c l (named (across c ns))) a

pub level-is : (c : IndexBlocks) (l m n : ℕ) → c.level n ≡ Some l → c.level n ≡ Some m → l ≡ m
level-is c l m n h g = (let e : Some l ≡ Some m = sym h ∙ g in cc)

-- what a block of a level names are blocks of the level below
pub named-down : (c : IndexBlocks) (l j m n : ℕ) (ns : List ℕ) → IsIndexSet c l ns → IsAmong n (blocks_down c l ns) → c.level n ≡ Some (suc j) → IsAmong m (named (c.entries n))
    → IsAmong m (blocks_down c l ns) × IsOnLevel c j m
named-down c zero j m n ns s among is a =
    let own = of-level c zero n ns s among in
    let e = level-is c 0 (suc j) n own.level is in
    absurd (omega arith)
named-down c (suc l) j m n ns s among is a =
    elim (among-parts n ns (blocks_down c l (named (across c ns))) among) [
      | inl here ↦
          (let own = of-level c (suc l) n ns s here in
          let e : l ≡ j = (let h = level-is c (suc l) (suc j) n own.level is in omega arith) in
          let below = named-across c m n ns here a in
          let O : ℕ → Type 0 = λ i. IsOnLevel c i m in
          (among-right m ns (blocks_down c l (named (across c ns))) (top-down c l m (named (across c ns)) below), subst O e (of-level c l m (named (across c ns)) s.2 below)))
      | inr low ↦
          (let r = named-down c l j m n (named (across c ns)) s.2 low is a in
          (among-right m ns (blocks_down c l (named (across c ns))) r.0, r.1))
    ]

-- ---- each stands once

once-both : (xs ys : List ℕ) → StandOnce xs → StandOnce ys → ((n : ℕ) → IsAmong n xs → IsAmong n ys → ⊥) → StandOnce (xs ++ ys)
once-both [] ys h g apart = g
once-both (x ∷ xs) ys h g apart =
    ((λ a. elim (among-parts x xs ys a) [ inl b ↦ h.0 b | inr b ↦ apart x (inl refl) b ]), once-both xs ys h.1 g (λ n a b. apart n (inr a) b))

pub level-once : (c : IndexBlocks) (l : ℕ) (ns : List ℕ) → IsIndexSet c l ns → StandOnce ns
level-once c l [] s = tt
level-once c l (n ∷ ns) s = ((blocks-once c l [] n ns s).1, level-once c l ns (set-behind c l (n ∷ []) ns s))

pub down-once : (c : IndexBlocks) (l : ℕ) (ns : List ℕ) → IsIndexSet c l ns → StandOnce (blocks_down c l ns)
down-once c zero ns s = level-once c zero ns s
down-once c (suc l) ns s =
    once-both ns (blocks_down c l (named (across c ns))) (level-once c (suc l) ns s) (down-once c l (named (across c ns)) s.2)
    (λ n here below.
    let own = of-level c (suc l) n ns s here in
    let r = down-level c l n (named (across c ns)) s.2 below in
    let e = level-is c (suc l) r.own n own.level r.on.level in
    let low = r.low in
    absurd (omega arith))
