-- What is right and what is wrong with the form of an index's blocks, by their table.
use Rattle.std.proofs.Common.{◌≡◌, ◌≢◌, ◌⊎◌, inl, inr, ℕ, zero, suc, ◌+◌, ◌*◌, ◌<◌, ◌≤◌, List, [], ◌∷◌, ◌++◌, length, true, false, Option, Some, None, refl, sym, ap, subst, ◌∙◌, arith}
use Rattle.std.specs.Prelude.{nat_eq}
use Rattle.std.proofs.lemmas.Nat.{mul-le}
use Rattle.std.proofs.lemmas.Bool.{cases_lt, cases_eq, eqb-true, eq-eqb, false≢true}
use Rattle.hd_bytes.specs.Numbers.{number_at}
use Rattle.hd_bytes.proofs.BlockLemmas.{length-block}
use Rattle.hd_volume.specs.Headers.{header_of}
use Rattle.hd_volume.specs.Volumes.{VolumeState, block_at}
use Rattle.hd_volume.specs.Entries.{Entry, entries_at, entries_in}
use Rattle.hd_volume.specs.Indexes.{entry_room, IsAmong}
use Rattle.hd_index_blocks.specs.Fields.{entry_in, CountFits}
use Rattle.hd_index_blocks.proofs.EntryLemmas.{entries-more}
use Rattle.hd_index_blocks.specs.Levels.{named}
use Rattle.hd_index_blocks.specs.IndexSets.{level_in, next_in, top_level, IsHeightRight}
use Rattle.hd_index_blocks.specs.Faultless.{IsFormRight}
use Rattle.hd_index_blocks.specs.LevelFaults.{IsWrongTop, IsWrongForm, StandsNowhere}
use Rattle.hd_index_blocks.proofs.Volumes.{level-of, level-kind}
use Rattle.hd_check_index.specs.declared.table.NotedBlock.{NotedBlock}
use Rattle.hd_check_index.specs.Tables.{noted, IsBlockOf, AreIndexBlocks}
use Rattle.hd_check_index.specs.Judging.{IsFirst}
use Rattle.hd_check_index.specs.NotedBlocks.{noted_at, IsNotedRight, AreOfLevel, HasStray}
use Rattle.hd_check_index.proofs.NotedTables.{among, index-of, before-of}

-- ---- levels

-- a block of the table is of the level that is noted
pub level-own : (v : VolumeState) (bs : List NotedBlock) (b : NotedBlock) → AreIndexBlocks v bs → IsBlockOf b bs → level_in v b.number ≡ Some b.level
level-own v bs b h i = (let t = h.there b i in level-of v b.number t.0 ∙ ap (λ (x : NotedBlock). Some x.level) (sym t.1))

pub one-level : (m l : ℕ) → Some m ≡ Some l → m ≡ l
one-level m l e = cc

pub level-right : (v : VolumeState) (bs : List NotedBlock) (n level i : ℕ) → AreIndexBlocks v bs → i < length bs → (noted_at bs i).number ≡ n → nat_eq (noted_at bs i).level level ≡ true → level_in v n ≡ Some level
level-right v bs n level i h within is same =
    ap (λ (m : ℕ). level_in v m) (sym is) ∙ level-own v bs (noted_at bs i) h (among bs i within) ∙ ap (λ (l : ℕ). Some l) (eqb-true _ _ same)

-- and of no other
pub level-wrong : (v : VolumeState) (bs : List NotedBlock) (n level i : ℕ) → AreIndexBlocks v bs → i < length bs → (noted_at bs i).number ≡ n → nat_eq (noted_at bs i).level level ≡ false → level_in v n ≢ Some level
level-wrong v bs n level i h within is other o =
    let own : Some (noted_at bs i).level ≡ Some level = sym (level-own v bs (noted_at bs i) h (among bs i within)) ∙ ap (λ (m : ℕ). level_in v m) is ∙ o in
    false≢true (sym other ∙ eq-eqb _ _ (one-level _ _ own))

-- and one that is not noted is of no level
pub level-none : (v : VolumeState) (bs : List NotedBlock) (n level : ℕ) → AreIndexBlocks v bs → ((b : NotedBlock) → IsBlockOf b bs → b.number ≡ n → ⊥) → level_in v n ≢ Some level
level-none v bs n level h none o = none (noted v n) (h.all n (level-kind v n level o).0) refl

-- ---- top and height

-- top and height are right where they are right by themselves and the top block is of the highest level
pub no-wrong-top : (v : VolumeState) → IsHeightRight v → (0 < (header_of v.image).top → level_in v (header_of v.image).top ≡ Some (top_level v)) → StandsNowhere (IsWrongTop v)
no-wrong-top v height top a o t = elim t.2 [
  | inl one ↦ elim height [ inl none ↦ one.1 none.1 | inr some ↦ (let s = some.0 in let z = one.0 in omega arith) ]
  | inr (inl two) ↦ elim height [ inl none ↦ two.0 none.0 | inr some ↦ (let s = some.1 in let z = two.1 in omega arith) ]
  | inr (inr (inl high)) ↦ elim height [ inl none ↦ (let z = none.1 in omega arith) | inr some ↦ (let s = some.2 in omega arith) ]
  | inr (inr (inr wrong)) ↦ wrong.1 (top (let other = wrong.0 in omega arith))
]

-- ---- what upper entries name

among-front : (m : ℕ) (es fs : List Entry) → IsAmong m (named es) → IsAmong m (named (es ++ fs))
among-front m [] fs i = absurd i
among-front m (e ∷ es) fs (inl is) = inl is
among-front m (e ∷ es) fs (inr i) = inr (among-front m es fs i)

among-last : (m : ℕ) (es : List Entry) (f : Entry) → m ≡ f.address → IsAmong m (named (es ++ (f ∷ [])))
among-last m [] f is = inl is
among-last m (e ∷ es) f is = inr (among-last m es f is)

among-parts : (m : ℕ) (es : List Entry) (f : Entry) → IsAmong m (named (es ++ (f ∷ []))) → IsAmong m (named es) ⊎ (m ≡ f.address)
among-parts m [] f (inl is) = inr is
among-parts m [] f (inr i) = absurd i
among-parts m (e ∷ es) f (inl is) = inl (inl is)
among-parts m (e ∷ es) f (inr i) = elim (among-parts m es f i) [ inl j ↦ inl (inr j) | inr is ↦ inr is ]

-- the first entries of a block name right ones, and so does one more
pub of-level-more : (v : VolumeState) (k : ℕ) (b : List ℕ) (l i : ℕ) → AreOfLevel v l (named (entries_at k b 12 i)) → level_in v (entry_in k b i).address ≡ Some l → AreOfLevel v l (named (entries_at k b 12 (i + 1)))
of-level-more v k b l i before here m among =
    let A : List Entry → Type 0 = λ es. IsAmong m (named es) in
    elim (among-parts m (entries_at k b 12 i) (entry_in k b i) (subst A (entries-more k b 12 i) among)) [
      | inl j ↦ before m j
      | inr is ↦ ap (λ (x : ℕ). level_in v x) is ∙ here
    ]

-- an entry of a block is among what its entries name
pub named-in : (k : ℕ) (b : List ℕ) (p i count : ℕ) → i < count → IsAmong (number_at 4 b (p + i * (k + 4) + k)) (named (entries_at k b p count))
named-in k b p i zero less = absurd (omega arith)
named-in k b p zero (suc count) less = inl (ap (λ (x : ℕ). number_at 4 b x) (let e : p + 0 * (k + 4) + k ≡ p + k = omega arith in e))
named-in k b p (suc i) (suc count) less =
    let N : ℕ → Type 0 = λ x. IsAmong (number_at 4 b x) (named (entries_at k b (p + k + 4) count)) in
    inr (subst N (let e : p + k + 4 + i * (k + 4) + k ≡ p + suc i * (k + 4) + k = omega arith in e) (named-in k b (p + k + 4) i count (omega arith)))

-- ---- the form of a block

-- a block is of a level, or it is not
of-or : (o : Option ℕ) (l : ℕ) → (o ≡ Some l) ⊎ (o ≢ Some l)
of-or None l = inr (λ e. cc)
of-or (Some x) l = elim (cases_eq x l) [ inl is ↦ inl (ap (λ (i : ℕ). Some i) is) | inr other ↦ inr (λ e. other (one-level x l e)) ]

module _ (k : ℕ) (v : VolumeState) (bs : List NotedBlock) (b : NotedBlock) (h : AreIndexBlocks v bs) (in-bs : IsBlockOf b bs) where
  -- a block whose noted form is not right has a wrong form
  pub wrong-noted : (IsNotedRight k v b → ⊥) → IsWrongForm k v (b.number * v.size) 0
  wrong-noted wrong =
      let is = level-own v bs b h in-bs in
      let own : b ≡ noted v b.number = (h.there b in-bs).1 in
      let count : b.count ≡ number_at 2 (block_at v b.number) 4 = ap (λ (x : NotedBlock). x.count) own in
      let next : b.next ≡ next_in v b.number = ap (λ (x : NotedBlock). x.next) own in
      elim (cases_lt b.level (header_of v.image).height) [
        | inr high ↦ (b.number, b.level, is, refl, refl, inl (λ low. omega arith))
        | inl low ↦ elim (cases_eq (number_at 2 (block_at v b.number) 4) 0) [
          | inl none ↦ (b.number, b.level, is, refl, refl, inr (inl none))
          | inr some ↦ elim (cases_lt (entry_room k v.size) (number_at 2 (block_at v b.number) 4)) [
            | inl many ↦ (b.number, b.level, is, refl, refl, inr (inr (inl many)))
            | inr few ↦ elim (cases_eq (next_in v b.number) 0) [
              | inl none ↦ absurd (wrong (record { low = low; some = omega arith; count = omega arith; next = inl (next ∙ none) }))
              | inr more ↦ elim (of-or (level_in v (next_in v b.number)) b.level) [
                | inl of ↦ absurd (wrong (record { low = low; some = omega arith; count = omega arith; next = inr (ap (λ (x : ℕ). level_in v x) next ∙ of) }))
                | inr other ↦ (b.number, b.level, is, refl, refl, inr (inr (inr (inl (more, other)))))
              ]
            ]
          ]
        ]
      ]

  -- and so has one of a level above level 0 with an entry that names no block of the level below
  pub wrong-names : (l : ℕ) → b.level ≡ suc l → HasStray v l (named (entries_in k (block_at v b.number))) → IsWrongForm k v (b.number * v.size) 0
  wrong-names l up stray =
      (b.number, b.level, level-own v bs b h in-bs, refl, refl, inr (inr (inr (inr (l, stray.0, up, stray.1, stray.2)))))

  -- a block is right where what is noted of it is right and its entries name right blocks
  pub right-form : IsNotedRight k v b → ((l : ℕ) → b.level ≡ suc l → AreOfLevel v l (named (entries_in k (block_at v b.number)))) → IsFormRight k v b.level b.number
  right-form right names =
      let own : b ≡ noted v b.number = (h.there b in-bs).1 in
      let count : b.count ≡ number_at 2 (block_at v b.number) 4 = ap (λ (x : NotedBlock). x.count) own in
      let next : b.next ≡ next_in v b.number = ap (λ (x : NotedBlock). x.next) own in
      record {
        low = right.low;
        some = (let s = right.some in omega arith);
        count = (let c = right.count in omega arith);
        next = elim right.next [ inl none ↦ inl (sym next ∙ none) | inr of ↦ inr (ap (λ (x : ℕ). level_in v x) (sym next) ∙ of) ];
        names = λ j m step i. names j step m i;
      }

  -- the bytes of such a block count no more entries than find room
  pub count-fits : IsNotedRight k v b → (bytes : List ℕ) → bytes ≡ block_at v b.number → CountFits k bytes
  count-fits right bytes is =
      let t = h.there b in-bs in
      let count : b.count ≡ number_at 2 (block_at v b.number) 4 = ap (λ (x : NotedBlock). x.count) t.1 in
      let few = right.count in
      let long : v.size ≡ length (block_at v b.number) = sym (length-block v.size b.number v.image t.0.there) in
      let few-here : number_at 2 (block_at v b.number) 4 ≤ entry_room k v.size = omega arith in
      subst (CountFits k) (sym is) (subst (λ (z : ℕ). number_at 2 (block_at v b.number) 4 ≤ entry_room k z) long few-here)

-- a block that is right is not wrong
pub form-not-wrong : (k : ℕ) (v : VolumeState) (a o : ℕ) (w : IsWrongForm k v a o) → IsFormRight k v w.1 w.0 → ⊥
form-not-wrong k v a o w b = elim w.5 [
  | inl high ↦ high b.low
  | inr (inl none) ↦ (let s = b.some in omega arith)
  | inr (inr (inl many)) ↦ (let c = b.count in omega arith)
  | inr (inr (inr (inl next))) ↦ elim b.next [ inl z ↦ next.0 z | inr is ↦ next.1 is ]
  | inr (inr (inr (inr names))) ↦ names.4 (b.names names.0 names.1 names.2 names.3)
]

-- ---- the first wrong block

-- An index block stands in the table, and is right where it is so there.
record StandsInTable (k : ℕ) (v : VolumeState) (bs : List NotedBlock) (l n : ℕ) : Type 0 where
  index : ℕ
  within : index < length bs
  is : (noted_at bs index).number ≡ n
  right : IsFormRight k v (noted_at bs index).level (noted_at bs index).number → IsFormRight k v l n

in-table : (k : ℕ) (v : VolumeState) (bs : List NotedBlock) (n l : ℕ) → AreIndexBlocks v bs → level_in v n ≡ Some l → StandsInTable k v bs l n
in-table k v bs n l h of =
    let t = level-kind v n l of in
    let j = index-of (noted v n) bs (h.all n t.0) in
    let level : (noted_at bs j.0).level ≡ l = ap (λ (b : NotedBlock). b.level) j.2 ∙ t.1 in
    let is : (noted_at bs j.0).number ≡ n = ap (λ (b : NotedBlock). b.number) j.2 in
    record {
      index = j.0;
      within = j.1;
      is = is;
      right = λ r. subst (λ (x : ℕ). IsFormRight k v x n) level (subst (λ (m : ℕ). IsFormRight k v (noted_at bs j.0).level m) is r);
    }

-- where all blocks of the table are right no form is wrong
pub none-wrong : (k : ℕ) (v : VolumeState) (bs : List NotedBlock) → AreIndexBlocks v bs
    → ((j : ℕ) → j < length bs → IsFormRight k v (noted_at bs j).level (noted_at bs j).number) → StandsNowhere (IsWrongForm k v)
none-wrong k v bs h all a o w = (let t = in-table k v bs w.0 w.1 h w.2 in form-not-wrong k v a o w (t.right (all t.index t.within)))

-- a wrong block is the first where those before it in the table are right
pub first-wrong : (k : ℕ) (v : VolumeState) (bs : List NotedBlock) (i : ℕ) → AreIndexBlocks v bs → i < length bs
    → ((j : ℕ) → j < i → IsFormRight k v (noted_at bs j).level (noted_at bs j).number) → IsWrongForm k v ((noted_at bs i).number * v.size) 0 → IsFirst v (IsWrongForm k v) (noted_at bs i).number 0
first-wrong k v bs i h within before wrong = record {
  here = wrong;
  least = λ a o w.
      (let n : ℕ = (noted_at bs i).number in
      let m : ℕ = w.0 in
      let at = w.3 in
      elim (cases_lt m n) [
        | inr high ↦ (let l : n * v.size ≤ m * v.size = mul-le n v.size m v.size high (omega arith) in omega arith)
        | inl low ↦
            (let t = in-table k v bs m w.1 h w.2 in
            let is = t.is in
            absurd (form-not-wrong k v a o w (t.right (before t.index (before-of 0 bs i t.index h.ascend within t.within (omega arith))))))
      ]);
}

-- ---- one image

module _ (k : ℕ) (v w : VolumeState) (image : w.image ≡ v.image) (size : w.size ≡ v.size) where
  -- blocks are of the levels of the image
  level-is : (n : ℕ) → level_in w n ≡ level_in v n
  level-is n = rw (size, image) refl

  block-is : (n : ℕ) → block_at w n ≡ block_at v n
  block-is n = rw (size, image) refl

  -- a block is right in the same image
  pub form-same : (l n : ℕ) → IsFormRight k w l n → IsFormRight k v l n
  form-same l n f =
      let count : number_at 2 (block_at w n) 4 ≡ number_at 2 (block_at v n) 4 = ap (λ (b : List ℕ). number_at 2 b 4) (block-is n) in
      let next : next_in w n ≡ next_in v n = ap (λ (b : List ℕ). number_at 4 b 8) (block-is n) in
      let room : entry_room k w.size ≡ entry_room k v.size = ap (λ (z : ℕ). entry_room k z) size in
      let height : (header_of w.image).height ≡ (header_of v.image).height = ap (λ (i : List ℕ). (header_of i).height) image in
      record {
        low = (let x = f.low in omega arith);
        some = (let x = f.some in omega arith);
        count = (let x = f.count in omega arith);
        next = elim f.next [ inl none ↦ inl (sym next ∙ none) | inr of ↦ inr (sym (level-is (next_in v n)) ∙ ap (λ (x : ℕ). level_in w x) (sym next) ∙ of) ];
        names = λ j m step i. sym (level-is m) ∙ f.names j m step (subst (λ (b : List ℕ). IsAmong m (named (entries_in k b))) (sym (block-is n)) i);
      }

  -- and wrong in the same image
  pub wrong-same : (n : ℕ) → IsWrongForm k w (n * w.size) 0 → IsWrongForm k v (n * v.size) 0
  wrong-same n t =
      let m : ℕ = t.0 in
      let l : ℕ = t.1 in
      let count : number_at 2 (block_at w m) 4 ≡ number_at 2 (block_at v m) 4 = ap (λ (b : List ℕ). number_at 2 b 4) (block-is m) in
      let next : next_in w m ≡ next_in v m = ap (λ (b : List ℕ). number_at 4 b 8) (block-is m) in
      let room : entry_room k w.size ≡ entry_room k v.size = ap (λ (z : ℕ). entry_room k z) size in
      let height : (header_of w.image).height ≡ (header_of v.image).height = ap (λ (i : List ℕ). (header_of i).height) image in
      let at : n * v.size ≡ m * v.size = subst (λ (z : ℕ). n * z ≡ m * z) size t.3 in (
        m,
        l,
        sym (level-is m) ∙ t.2,
        at,
        refl,
        elim t.5 [
          | inl high ↦ inl (λ low. high (omega arith))
          | inr (inl none) ↦ inr (inl (sym count ∙ none))
          | inr (inr (inl many)) ↦ inr (inr (inl (omega arith)))
          | inr (inr (inr (inl other))) ↦
              inr (inr (inr (inl ((λ z. other.0 (next ∙ z)), (λ of. other.1 (ap (λ (x : ℕ). level_in w x) next ∙ level-is (next_in v m) ∙ of))))))
          | inr (inr (inr (inr names))) ↦
              inr (inr (inr (inr (names.0, names.1, names.2, subst (λ (b : List ℕ). IsAmong names.1 (named (entries_in k b))) (block-is m) names.3, (λ of. names.4 (level-is names.1 ∙ of))))))
        ],
      )
