-- The steps by which a new block is hung behind the last one of the sequence set.
use Rattle.std.proofs.Common.{◌≡◌, ◌≢◌, inl, inr, ℕ, suc, ◌<◌, List, [], ◌∷◌, ◌++◌, length, take, drop, refl, sym, ap, ◌∙◌, arith, subst}
use Rattle.std.proofs.lemmas.List.{length-take-le}
use Rattle.hd_bytes.specs.Numbers.{number_at}
use Rattle.hd_volume.specs.Headers.{Header, header_of}
use Rattle.hd_volume.specs.Volumes.{VolumeState, block_at, IsKind, IsFormatted}
use Rattle.hd_volume.specs.Entries.{Entry, entries_in}
use Rattle.hd_index_blocks.proofs.BlockLemmas.{length-entries}
use Rattle.hd_index.specs.EditedBlocks.{level_of, with_entry_at, with_key_at, IsLevelBlock, IsIndexBlock, Bears}
use Rattle.hd_index.specs.Edits.{HasNewEntries, IsIndexStep, IsBegun, IsNextChanged}
use Rattle.hd_index.proofs.StepLemmas.{change-join, edit-step, step-join, same-level-block, own-level, bears-kept}
use Rattle.hd_index.specs.declared.divisions.Lead.{Lead}
use Rattle.hd_index.specs.Divisions.{IsEntryAt}
use Rattle.hd_index.specs.Behind.{IsHungBehind}
use Rattle.hd_index.proofs.Parts.{with-key-parts, put-behind, length-with-key}
use Rattle.hd_index.proofs.Under.{bears-count}

-- A new block was begun that names none: every index block stays as it was.
module _ {u v : VolumeState} (key : List ℕ) (address p m : ℕ) (lead : Lead) (up : IsLevelBlock (length key) u 1 p) (low : IsLevelBlock (length key) u 0 lead.child)
    (at : IsEntryAt (length key) (block_at u p) lead) (f : IsFormatted u) (some : 0 < u.size) (b : IsBegun u 0 m key address 0 v) where
  not-new : (i : ℕ) → IsKind u 2 i → i ≢ m
  not-new i kind e = b.fresh (let K : ℕ → Type 0 = λ z. IsKind u 2 z in subst K e kind)

  begun-same : (i : ℕ) → IsKind u 2 i → block_at v i ≡ block_at u i
  begun-same i kind = b.step.others i kind (not-new i kind) (not-new i kind)

  apart-child : p ≢ lead.child
  apart-child e =
      let x = up.level in
      let y = low.level in
      let same : level_of (block_at u p) ≡ level_of (block_at u lead.child) = ap (λ (i : ℕ). level_of (block_at u i)) e in
      omega arith

  pub lower-block : IsLevelBlock (length key) v 0 lead.child
  lower-block = same-level-block (length key) 0 u v lead.child b.step.size (b.step.stay lead.child low.is) (begun-same lead.child low.is) low

  pub lower-own : IsIndexBlock (length key) v lead.child
  lower-own = own-level (length key) 0 v lead.child lower-block

  -- the old block names the new one
  module _ {y : VolumeState} (t : IsNextChanged (length key) v lead.child m y) where
    upper-same : block_at y p ≡ block_at u p
    upper-same = (edit-step t.edit).others p (b.step.stay p up.is) apart-child apart-child ∙ begun-same p up.is

    pub upper-block : IsIndexBlock (length key) y p
    upper-block =
        let s = edit-step t.edit in
        own-level (length key) 1 y p (same-level-block (length key) 1 u y p (s.size ∙ b.step.size) (s.stay p (b.step.stay p up.is)) upper-same up)

    pub upper-count : number_at 2 (block_at y p) 4 ≡ lead.count
    upper-count = ap (λ (t : List ℕ). number_at 2 t 4) upper-same ∙ sym at.count

    pub key-count : (last : List ℕ) → {x : VolumeState} → HasNewEntries (length key) y p (with_key_at lead.index last (entries_in (length key) (block_at y p))) (number_at 4 (block_at y p) 8) x → number_at 2 (block_at x p) 4 ≡ lead.count
    key-count last {x} e =
        bears-count (length key) (level_of (block_at y p)) p (number_at 4 (block_at y p) 8) x (with_key_at lead.index last (entries_in (length key) (block_at y p))) e.bears
        ∙ length-with-key (entries_in (length key) (block_at y p)) lead.index last ∙ length-entries (length key) (block_at y p) 12 (number_at 2 (block_at y p) 4) ∙ upper-count

    grown : IsIndexStep u lead.child m 1 y
    grown =
        let s = b.step in
        let wide : IsIndexStep u lead.child m 1 v = record {
          size = s.size;
          sizes = s.sizes;
          formatted = s.formatted;
          others = λ i kind q1 q2. s.others i kind q2 q2;
          stay = s.stay;
          back = s.back;
          change = s.change;
          header = s.header;
          spares = s.spares;
        } in
        step-join lead.child m 1 lead.child f some wide t.edit (inl refl)

    pub hung-behind : (last : List ℕ) → {x w : VolumeState} → (j : ℕ) → j ≡ suc lead.index → lead.index < lead.count
        → HasNewEntries (length key) y p (with_key_at lead.index last (entries_in (length key) (block_at y p))) (number_at 4 (block_at y p) 8) x
        → HasNewEntries (length key) x p (with_entry_at j (record { key = take (length key) lead.key; address = m }) (entries_in (length key) (block_at x p))) (number_at 4 (block_at x p) 8) w
        → IsHungBehind (length key) u p lead last (record { key = key; address = address }) w
    hung-behind last {x} {w} j next within e1 e2 =
        let k : ℕ = length key in
        let s = grown in
        let t1 = edit-step e1.edit in
        let t2 = edit-step e2.edit in
        let n : ℕ = lead.child in
        let es : List Entry = entries_in k (block_at u n) in
        let ups : List Entry = entries_in k (block_at u p) in
        let own : List Entry = record { key = key; address = address } ∷ [] in
        let new : Entry = record { key = take k lead.key; address = m } in
        let apart-n : n ≢ p = λ e. apart-child (sym e) in
        let apart-m : m ≢ p = λ e. not-new p up.is (sym e) in
        let apart-low : m ≢ n = λ e. not-new n low.is (sym e) in
        let K : (VolumeState) → ℕ → Type 0 = λ z i. IsKind z 2 i in
        let len : length ups ≡ lead.count = length-entries k (block_at u p) 12 (number_at 2 (block_at u p) 4) ∙ sym at.count in
        let front : length (take lead.index ups) ≡ lead.index = length-take-le lead.index ups (omega arith) in
        let keyed : entries_in k (block_at x p) ≡ take lead.index ups ++ (record { key = last; address = n } ∷ drop (suc lead.index) ups) =
        e1.bears.entries ∙ ap (λ (t : List ℕ). with_key_at lead.index last (entries_in k t)) upper-same ∙ with-key-parts ups lead.index (record { key = take k lead.key; address = n }) last at.entry in
        let all : with_entry_at j new (entries_in k (block_at x p)) ≡ take lead.index ups ++ (record { key = last; address = n } ∷ new ∷ drop (suc lead.index) ups) =
        ap (λ (i : ℕ). with_entry_at i new (entries_in k (block_at x p))) next ∙ ap (with_entry_at (suc lead.index) new) keyed
        ∙ put-behind (take lead.index ups) lead.index (record { key = last; address = n }) new (drop (suc lead.index) ups) front in
        let level : level_of (block_at x p) ≡ 1 = e1.bears.is.level ∙ ap level_of upper-same ∙ up.level in
        let behind : number_at 4 (block_at x p) 8 ≡ number_at 4 (block_at u p) 8 = e1.bears.next_is ∙ ap (λ (t : List ℕ). number_at 4 t 8) upper-same in
        let L : ℕ → Type 0 = λ i. Bears k w i p (with_entry_at j new (entries_in k (block_at x p))) (number_at 4 (block_at x p) 8) in
        let E : List Entry → Type 0 = λ fs. Bears k w 1 p fs (number_at 4 (block_at x p) 8) in
        let N : ℕ → Type 0 = λ i. Bears k w 1 p (take lead.index ups ++ (record { key = last; address = n } ∷ new ∷ drop (suc lead.index) ups)) i in
        let BL : ℕ → Type 0 = λ i. Bears k y i n (entries_in k (block_at v n)) m in
        let BE : List ℕ → Type 0 = λ t. Bears k y 0 n (entries_in k t) m in
        let lower : Bears k y 0 n es m = subst BE (begun-same n low.is) (subst BL lower-block.level t.bears) in
        let upper : Bears k y 0 m own 0 = bears-kept k 0 m n own 0 t.edit apart-low b.bears in
        let c1 = change-join 1 0 f s.formatted some s.size s.change t1.change in
        let size-x : x.size ≡ u.size = t1.size ∙ s.size in
        let c2 = change-join 1 0 f t1.formatted some size-x c1 t2.change in
        let count : ℕ = (header_of w.image).count in
        record {
          block = m;
          fresh = b.fresh;
          size = t2.size ∙ size-x;
          formatted = t2.formatted;
          others = λ i kind q1 q2. t2.others i (t1.stay i (s.stay i kind)) q2 q2 ∙ t1.others i (s.stay i kind) q2 q2 ∙ s.others i kind q1 (not-new i kind);
          stay = λ i kind. t2.stay i (t1.stay i (s.stay i kind));
          back = λ i kind.
              let in-x : IsKind x 2 i = elim (t2.back i kind) [ inl old ↦ old | inr e ↦ subst (K x) (sym e) e2.edit.was ] in
              let in-y : IsKind y 2 i = elim (t1.back i in-x) [ inl old ↦ old | inr e ↦ subst (K y) (sym e) e1.edit.was ] in
              s.back i in-y;
          low = bears-kept k 0 n p es m e2.edit apart-n (bears-kept k 0 n p es m e1.edit apart-n lower);
          high = bears-kept k 0 m p own 0 e2.edit apart-m (bears-kept k 0 m p own 0 e1.edit apart-m upper);
          upper = subst N behind (subst E all (subst L level e2.bears));
          change = c2;
          header = t2.header ∙ ap (λ (h : Header). record h { count = count }) t1.header ∙ ap (λ (h : Header). record h { count = count }) s.header;
          spares = (let a = s.spares in let q = t1.spares in let c = t2.spares in omega arith);
        }
