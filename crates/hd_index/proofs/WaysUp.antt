-- The way up from a block of an index set, where blocks of the way go.
use Rattle.std.proofs.Common.{◌≡◌, ◌≢◌, ◌⊎◌, inl, inr, ℕ, zero, suc, ◌+◌, ◌<◌, Bool, true, false, List, [], ◌∷◌, ◌++◌, Some, None, refl, sym, ap, ◌∙◌, subst, arith}
use Rattle.std.specs.Prelude.{bytes_eq}
use Rattle.hd_volume.specs.Entries.{Entry}
use Rattle.hd_volume.specs.Indexes.{is_below_first, keys_ascend, IsAmong}
use Rattle.hd_index_blocks.specs.Maps.{address_of}
use Rattle.hd_index_blocks.specs.Levels.{IndexBlocks, across, named, sequence_set, entries_below, AreBelow, IsIndexSet}
use Rattle.hd_index_blocks.specs.Ways.{child_of, IsAround, IsNamed}
use Rattle.hd_index_blocks.specs.Changes.{IsLeft, entry_left, IsWayUp}
use Rattle.hd_index_blocks.specs.Chains.{first_of, AreLevelsLinked}
use Rattle.hd_index_blocks.specs.Linking.{IsRelinked}
use Rattle.hd_index_blocks.specs.Neighbours.{last_of, last_child}
use Rattle.hd_index_blocks.proofs.Keys.{not-less, first-less, ascend-parts, ascend-above, address-behind, address-above}
use Rattle.hd_index_blocks.proofs.Levels.{on-parts, set-level}
use Rattle.hd_index_blocks.proofs.Descents.{around-down, names-about, top-around}
use Rattle.hd_index_blocks.proofs.Downs.{among-parts, among-left, among-right, of-level}
use Rattle.hd_index_blocks.proofs.Neighbours.{left-named}
use Rattle.hd_index_blocks.proofs.Unlinking.{levels-linked}
use Rattle.hd_index.specs.declared.stand.Stand.{Stand}
use Rattle.hd_index.specs.Stands.{front_of}
use Rattle.hd_index.specs.Removals.{IsThin, IsStepUp, IsLinkedWay, IsOnWay}
use Rattle.hd_index.proofs.Fronts.{fronted, IsFront}

-- ---- what a linked way says

pub way-up : (c d : IndexBlocks) (old new : ℕ → ℕ) (h top steps l : ℕ) (left : List ℕ) (n : ℕ) (right kept kept_top : List ℕ) → IsLinkedWay c d old new h top steps l left n right kept kept_top
    → IsWayUp c d h top steps l left n right kept kept_top
way-up c d old new h top zero l left n right kept kept_top w = w
way-up c d old new h top (suc steps) l left n right kept kept_top w =
    let s = w.4 in
    (w.0, w.1, w.2, w.3, s.names, s.is_left, s.others, s.set, way-up c d old new h top steps (suc l) w.0 w.1 w.2 w.3 kept_top w.5)

-- it has as many steps as there are levels above
pub way-steps : (c d : IndexBlocks) (old new : ℕ → ℕ) (h top steps l : ℕ) (left : List ℕ) (n : ℕ) (right kept kept_top : List ℕ) → IsLinkedWay c d old new h top steps l left n right kept kept_top
    → steps + l ≡ h
way-steps c d old new h top zero l left n right kept kept_top w = let e = w.0 in omega arith
way-steps c d old new h top (suc steps) l left n right kept kept_top w =
    let e = way-steps c d old new h top steps (suc l) w.0 w.1 w.2 w.3 kept_top w.5 in omega arith

no-more : (x : List ℕ) → x ++ [] ≡ x
no-more [] = refl
no-more (x ∷ xs) = ap (λ (t : List ℕ). x ∷ t) (no-more xs)

-- above a level that is a chain all are
pub way-linked : (c d : IndexBlocks) (old new : ℕ → ℕ) (h top steps l : ℕ) (left : List ℕ) (n : ℕ) (right kept kept_top : List ℕ) → IsLinkedWay c d old new h top steps l left n right kept kept_top
    → (kept ≡ []) ⊎ (kept ≡ n ∷ []) → AreLevelsLinked d new l (left ++ (kept ++ right)) → AreLevelsLinked d new h kept_top
way-linked c d old new h top zero l left n right kept kept_top w own low =
    let e1 = w.1 in let e3 = w.3 in
    let end : left ++ (kept ++ right) ≡ kept_top = rw (e1, e3) (no-more kept ∙ sym w.4) in
    let T : List ℕ → Type 0 = λ t. AreLevelsLinked d new l t in
    let L : ℕ → Type 0 = λ i. AreLevelsLinked d new i kept_top in
    subst L w.0 (subst T end low)
way-linked c d old new h top (suc steps) l left n right kept kept_top w own low =
    let s = w.4 in
    way-linked c d old new h top steps (suc l) w.0 w.1 w.2 w.3 kept_top w.5 s.relinked.left_is
    (levels-linked c d old new l (first_of (w.0 ++ (w.1 ∷ w.2))) left n right kept w.0 w.1 w.2 w.3 s.names own s.is_left s.others s.set s.relinked s.linked low)

-- ---- what stays of it

-- Above a level the blocks have stayed in between.
abbrev pub AreAbove : IndexBlocks → IndexBlocks → IndexBlocks → (ℕ → ℕ) → (ℕ → ℕ) → ℕ → Type 0
AreAbove c d e new last l = (x j : ℕ) → c.level x ≡ Some j → l < j → (d.level x ≡ Some j → e.level x ≡ Some j) × (e.entries x ≡ d.entries x) × (last x ≡ new x)

pub left-some : (d : IndexBlocks) (l n : ℕ) (es : List Entry) → es ≢ [] → d.level n ≡ Some l → d.entries n ≡ es → IsLeft d l n es (n ∷ [])
left-some d l n [] some level is = absurd (some refl)
left-some d l n (e ∷ es) some level is = (refl, level, is)

left-stays : (d e : IndexBlocks) (l n : ℕ) (es : List Entry) (kept : List ℕ) → (d.level n ≡ Some l → e.level n ≡ Some l) → e.entries n ≡ d.entries n → IsLeft d l n es kept → IsLeft e l n es kept
left-stays d e l n [] kept level same h = h
left-stays d e l n (x ∷ es) kept level same h = (h.0, level h.1, same ∙ h.2)

last-in : (x : ℕ) (xs : List ℕ) → IsAmong (last_of x xs) (x ∷ xs)
last-in x [] = inl refl
last-in x (y ∷ ys) = inr (last-in y ys)

-- the last of some blocks is one of them
pub last-of-some : (ns : List ℕ) → ns ≢ [] → IsAmong (last_of 0 ns) ns
last-of-some [] some = absurd (some refl)
last-of-some (n ∷ ns) some = last-in n ns

-- what is left of a level was there
pub kept-among : (x : ℕ) (left : List ℕ) (n : ℕ) (right kept : List ℕ) → (kept ≡ []) ⊎ (kept ≡ n ∷ []) → IsAmong x (left ++ (kept ++ right)) → IsAmong x (left ++ (n ∷ right))
kept-among x left n right kept (inl none) a =
    let A : List ℕ → Type 0 = λ t. IsAmong x (left ++ (t ++ right)) in
    elim (among-parts x left right (subst A none a)) [ inl b ↦ among-left x left (n ∷ right) b | inr b ↦ among-right x left (n ∷ right) (inr b) ]
kept-among x left n right kept (inr one) a = let A : List ℕ → Type 0 = λ t. IsAmong x (left ++ (t ++ right)) in subst A one a

relinked-stays : (old new last : ℕ → ℕ) (left : List ℕ) (n : ℕ) (right kept : List ℕ) → ((x : ℕ) → IsAmong x (left ++ (n ∷ right)) → last x ≡ new x) → IsRelinked old new left n right kept
    → IsRelinked old last left n right kept
relinked-stays old new last left n right kept same r = record {
  left_is = r.left_is;
  gone = λ none some. same (last_of 0 left) (among-left (last_of 0 left) left (n ∷ right) (last-of-some left some)) ∙ r.gone none some;
  others = λ x a away. same x (kept-among x left n right kept r.left_is a) ∙ r.others x a away;
}

-- a level of which each block names what it named
pub relinked-same : (old new : ℕ → ℕ) (left : List ℕ) (n : ℕ) (right : List ℕ) → ((x : ℕ) → IsAmong x (left ++ (n ∷ right)) → new x ≡ old x) → IsRelinked old new left n right (n ∷ [])
relinked-same old new left n right same = record {
  left_is = inr refl;
  gone = λ none. absurd (let e : n ∷ [] ≡ [] = none in cc);
  others = λ x a away. same x a;
}

pub way-stays : (c d e : IndexBlocks) (old new last : ℕ → ℕ) (h top steps l : ℕ) (left : List ℕ) (n : ℕ) (right kept kept_top : List ℕ) → AreAbove c d e new last l
    → IsLinkedWay c d old new h top steps l left n right kept kept_top → IsLinkedWay c e old last h top steps l left n right kept kept_top
way-stays c d e old new last h top zero l left n right kept kept_top above w = w
way-stays c d e old new last h top (suc steps) l left n right kept kept_top above w =
    let s = w.4 in
    let left_up = w.0 in let p = w.1 in let right_up = w.2 in let kept_up = w.3 in
    let is = λ (x : ℕ) (a : IsAmong x (left_up ++ (p ∷ right_up))). (of-level c (suc l) x (left_up ++ (p ∷ right_up)) s.set a).level in
    let own = above p (suc l) (is p (among-right p left_up (p ∷ right_up) (inl refl))) (omega arith) in
    let es : List Entry = s.names.front ++ (entry_left kept s.names.entry ++ s.names.back) in
    let step : IsStepUp c e old last l left n right kept left_up p right_up kept_up = record {
      names = s.names;
      is_left = left-stays d e (suc l) p es kept_up own.0 own.1 s.is_left;
      others = λ x level other. let r = s.others x level other in let a = above x (suc l) level (omega arith) in (a.0 r.0, a.1 ∙ r.1);
      set = s.set;
      linked = s.linked;
      relinked = relinked-stays old new last left_up p right_up kept_up (λ x a. (above x (suc l) (is x a) (omega arith)).2) s.relinked;
    } in
    (left_up, p, right_up, kept_up, step, way-stays c d e old new last h top steps (suc l) left_up p right_up kept_up kept_top (λ x j level less. above x j level (omega arith)) w.5)

-- ---- a walk down

-- at the top
pub on-top : (c : IndexBlocks) (next : ℕ → ℕ) (h top : ℕ) (key : List ℕ) (l : ℕ) (stand : Stand) → 0 < top → IsIndexSet c h (top ∷ []) → AreLevelsLinked c next h (top ∷ []) → stand.left ≡ 0
    → stand.block ≡ top → l ≡ h → IsOnWay c next h top key l stand
on-top c next h top key l stand some set linked left block level =
    let O : ℕ → Type 0 = λ i. IsOnWay c next h top key i stand in
    let A : ℕ → Type 0 = λ n. IsAround c key h [] n [] in
    let L : ℕ → Type 0 = λ n. AreLevelsLinked c next h (n ∷ []) in
    let own : O h = record {
      some = some;
      before = [];
      behind = [];
      around = subst A (sym block) (top-around c key h top set);
      left_is = left;
      whole = ap (λ (n : ℕ). sequence_set c h (n ∷ [])) block;
      linked = subst L (sym block) linked;
      steps = 0;
      way = (refl, refl, block, refl, ap (λ (n : ℕ). n ∷ []) (sym block));
    } in
    subst O (sym level) own

-- one step down
pub on-down : (c : IndexBlocks) (next : ℕ → ℕ) (h top : ℕ) (key : List ℕ) (l : ℕ) (stand below : Stand) → c.level 0 ≡ None → IsOnWay c next h top key (suc l) stand
    → below.block ≡ child_of key (c.entries stand.block) → below.left ≡ last_of (last_child c stand.left) (named (front_of key (c.entries stand.block)))
    → IsOnWay c next h top key l below
on-down c next h top key l stand below none s block left =
    let n : ℕ = stand.block in
    let on = on-parts c (suc l) s.before (n ∷ s.behind) (set-level c (suc l) (s.before ++ (n ∷ s.behind)) s.around.set) in
    let f = fronted key (c.entries n) on.1.1 in
    let front : List Entry = front_of key (c.entries n) in
    let before : List ℕ = named (across c s.before ++ front) in
    let behind : List ℕ = named (f.back ++ across c s.behind) in
    let down = around-down c key l s.before n s.behind front f.entry f.back f.is f.less f.here s.around in
    let is : below.block ≡ f.entry.address = block ∙ sym f.child in
    let nm : IsNamed c before f.entry.address behind s.before n s.behind =
    record { front = front; entry = f.entry; back = f.back; is = f.is; child = refl; left_is = refl; right_is = refl } in
    let beside = left-named c l before f.entry.address behind s.before n s.behind nm on.0 none in
    let about = names-about c s.before n s.behind front f.entry f.back f.is in
    let L : List ℕ → Type 0 = λ t. AreLevelsLinked c next l t in
    let O : ℕ → Type 0 = λ b. IsOnWay c next h top key l (record { left = below.left; block = b }) in
    let step : IsStepUp c c next next l before f.entry.address behind (f.entry.address ∷ []) s.before n s.behind (n ∷ []) = record {
      names = nm;
      is_left = left-some c (suc l) n (front ++ (f.entry ∷ f.back)) (λ e. on.1.1 (f.is ∙ e)) on.1.0 f.is;
      others = λ x level other. (level, refl);
      set = s.around.set;
      linked = s.linked.0;
      relinked = relinked-same next next s.before n s.behind (λ x a. refl);
    } in
    let own : O f.entry.address = record {
      some = s.some;
      before = before;
      behind = behind;
      around = down;
      left_is = left ∙ ap (λ (i : ℕ). last_of (last_child c i) (named front)) s.left_is ∙ sym beside;
      whole = ap (sequence_set c l) (sym about) ∙ s.whole;
      linked = subst L about s.linked.1;
      steps = suc s.steps;
      way = (s.before, n, s.behind, n ∷ [], step, s.way);
    } in
    subst O (sym is) own

-- ---- the one entry that goes

-- below a block on a way of single entries there is one
pub thin-entry : (c : IndexBlocks) (l n : ℕ) → IsThin c l n → (e : Entry) × (entries_below c l (n ∷ []) ≡ e ∷ [])
thin-entry c zero n t = (t.0, ap (λ (es : List Entry). es ++ []) t.1)
thin-entry c (suc l) n t =
    let r = thin-entry c l t.0.address t.2 in
    (r.0, ap (λ (es : List Entry). entries_below c l (named (es ++ []))) t.1 ∙ r.1)

-- a key that is there, between those below it and those above, is that of the entry
pub found-between : (key : List ℕ) (xs : List Entry) (e : Entry) (ys : List Entry) → AreBelow key xs → is_below_first key ys ≡ true → keys_ascend ys ≡ true
    → address_of key (xs ++ (e ∷ ys)) ≢ None → bytes_eq e.key key ≡ true
found-between key xs e ys less above ascend there = by-test (bytes_eq e.key key) refl
  where
    by-test : (b : Bool) → bytes_eq e.key key ≡ b → bytes_eq e.key key ≡ true
    by-test true is = is
    by-test false is = absurd (there (address-behind key xs (e ∷ ys) less ∙ (let z : address_of key (e ∷ ys) ≡ address_of key ys = rw is refl in z) ∙ address-above key ys above ascend))

-- a key that is there is that of the entry that it leads to
pub found-front : (key : List ℕ) (es : List Entry) (f : IsFront key es) → keys_ascend es ≡ true → address_of key es ≢ None → bytes_eq f.entry.key key ≡ true
found-front key es f ascend there = by-test (bytes_eq f.entry.key key) refl
  where
    all : keys_ascend (front_of key es ++ (f.entry ∷ f.back)) ≡ true
    all = ap keys_ascend (sym f.is) ∙ ascend

    found : address_of key (front_of key es ++ (f.entry ∷ f.back)) ≢ None
    found none = there (ap (address_of key) f.is ∙ none)

    by-test : (b : Bool) → bytes_eq f.entry.key key ≡ b → bytes_eq f.entry.key key ≡ true
    by-test true is = is
    by-test false is = elim f.here [
      | inl not ↦
          found-between key (front_of key es) f.entry f.back f.less
          (first-less key f.entry.key f.back (not-less f.entry.key key not is) (ascend-above (front_of key es) f.entry f.back all))
          (ascend-parts (f.entry ∷ []) f.back (ascend-parts (front_of key es) (f.entry ∷ f.back) all).1).1 found
      | inr last ↦
          (let N : List Entry → Type 0 = λ t. (is_below_first key t ≡ true) × (keys_ascend t ≡ true) in
          let one : N [] = (refl, refl) in
          let at = subst N (sym last) one in
          found-between key (front_of key es) f.entry f.back f.less at.0 at.1 found)
    ]
