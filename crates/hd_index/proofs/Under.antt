-- The steps by which a block is divided under its parent: the division, another key for the parent's entry, and an entry more.
use Rattle.std.proofs.Common.{◌≡◌, ◌≢◌, inl, inr, ℕ, suc, ◌<◌, List, ◌∷◌, ◌++◌, length, take, drop, sym, ap, ◌∙◌, arith, subst}
use Rattle.std.proofs.lemmas.List.{length-take-le}
use Rattle.hd_bytes.specs.Numbers.{number_at}
use Rattle.hd_volume.specs.Headers.{Header, header_of}
use Rattle.hd_volume.specs.Volumes.{VolumeState, block_at, IsKind, IsFormatted}
use Rattle.hd_volume.specs.Entries.{Entry, entries_in}
use Rattle.hd_index_blocks.proofs.BlockLemmas.{length-entries}
use Rattle.hd_index.specs.EditedBlocks.{level_of, with_entry_at, with_key_at, IsLevelBlock, IsIndexBlock, Bears}
use Rattle.hd_index.specs.Edits.{HasNewEntries, IsHalved}
use Rattle.hd_index.proofs.StepLemmas.{change-join, edit-step, same-level-block, own-level, bears-kept}
use Rattle.hd_index.specs.declared.divisions.Lead.{Lead}
use Rattle.hd_index.specs.declared.divisions.Cut.{Cut}
use Rattle.hd_index.specs.Divisions.{IsEntryAt, IsDividedUnder}
use Rattle.hd_index.proofs.Parts.{with-key-parts, put-behind, length-with-key}

-- a block counts the entries that it bears
pub bears-count : (k l n next : ℕ) (v : VolumeState) (es : List Entry) → Bears k v l n es next → number_at 2 (block_at v n) 4 ≡ length es
bears-count k l n next v es h = sym (length-entries k (block_at v n) 12 (number_at 2 (block_at v n) 4)) ∙ ap length h.entries

module _ {u v : VolumeState} (k l p m : ℕ) (lead : Lead) (cut : Cut) (up : IsLevelBlock k u (suc l) p) (low : IsLevelBlock k u l lead.child) (at : IsEntryAt k (block_at u p) lead)
    (d : IsHalved k u l lead.child m cut.half cut.next v) where
  apart-child : p ≢ lead.child
  apart-child e =
      let a = up.level in
      let b = low.level in
      let same : level_of (block_at u p) ≡ level_of (block_at u lead.child) = ap (λ (i : ℕ). level_of (block_at u i)) e in
      omega arith

  apart-new : (b : ℕ) → IsKind u 2 b → b ≢ m
  apart-new b kind e = d.fresh (let K : ℕ → Type 0 = λ i. IsKind u 2 i in subst K e kind)

  -- the parent stays at first
  upper-same : block_at v p ≡ block_at u p
  upper-same = d.step.others p up.is apart-child (apart-new p up.is)

  pub upper-block : IsIndexBlock k v p
  upper-block = own-level k (suc l) v p (same-level-block k (suc l) u v p d.step.size (d.step.stay p up.is) upper-same up)

  pub upper-count : number_at 2 (block_at v p) 4 ≡ lead.count
  upper-count = ap (λ (b : List ℕ). number_at 2 b 4) upper-same ∙ sym at.count

  -- and then counts as many as before
  pub key-count : {x : VolumeState} → HasNewEntries k v p (with_key_at lead.index (take k cut.key) (entries_in k (block_at v p))) (number_at 4 (block_at v p) 8) x → number_at 2 (block_at x p) 4 ≡ lead.count
  key-count {x} e =
      bears-count k (level_of (block_at v p)) p (number_at 4 (block_at v p) 8) x (with_key_at lead.index (take k cut.key) (entries_in k (block_at v p))) e.bears
      ∙ length-with-key (entries_in k (block_at v p)) lead.index (take k cut.key) ∙ length-entries k (block_at v p) 12 (number_at 2 (block_at v p) 4) ∙ upper-count

  pub divided-under : {x w : VolumeState} (j : ℕ) → j ≡ suc lead.index → IsFormatted u → 0 < u.size → lead.index < lead.count
      → HasNewEntries k v p (with_key_at lead.index (take k cut.key) (entries_in k (block_at v p))) (number_at 4 (block_at v p) 8) x
      → HasNewEntries k x p (with_entry_at j (record { key = take k lead.key; address = m }) (entries_in k (block_at x p))) (number_at 4 (block_at x p) 8) w → IsDividedUnder k u l p lead cut w
  divided-under {x} {w} j next f some within e1 e2 =
      let s = d.step in
      let t1 = edit-step e1.edit in
      let t2 = edit-step e2.edit in
      let n : ℕ = lead.child in
      let es : List Entry = entries_in k (block_at u n) in
      let ups : List Entry = entries_in k (block_at u p) in
      let new : Entry = record { key = take k lead.key; address = m } in
      let key : List ℕ = take k cut.key in
      let apart-n : n ≢ p = λ e. apart-child (sym e) in
      let apart-m : m ≢ p = λ e. apart-new p up.is (sym e) in
      let K : (VolumeState) → ℕ → Type 0 = λ z i. IsKind z 2 i in
      let len : length ups ≡ lead.count = length-entries k (block_at u p) 12 (number_at 2 (block_at u p) 4) ∙ sym at.count in
      let front : length (take lead.index ups) ≡ lead.index = length-take-le lead.index ups (omega arith) in
      let keyed : entries_in k (block_at x p) ≡ take lead.index ups ++ (record { key = key; address = n } ∷ drop (suc lead.index) ups) =
      e1.bears.entries ∙ ap (λ (b : List ℕ). with_key_at lead.index key (entries_in k b)) upper-same ∙ with-key-parts ups lead.index (record { key = take k lead.key; address = n }) key at.entry in
      let all : with_entry_at j new (entries_in k (block_at x p)) ≡ take lead.index ups ++ (record { key = key; address = n } ∷ new ∷ drop (suc lead.index) ups) =
      ap (λ (i : ℕ). with_entry_at i new (entries_in k (block_at x p))) next ∙ ap (with_entry_at (suc lead.index) new) keyed
      ∙ put-behind (take lead.index ups) lead.index (record { key = key; address = n }) new (drop (suc lead.index) ups) front in
      let level : level_of (block_at x p) ≡ suc l = e1.bears.is.level ∙ ap level_of upper-same ∙ up.level in
      let behind : number_at 4 (block_at x p) 8 ≡ number_at 4 (block_at u p) 8 = e1.bears.next_is ∙ ap (λ (b : List ℕ). number_at 4 b 8) upper-same in
      let L : ℕ → Type 0 = λ i. Bears k w i p (with_entry_at j new (entries_in k (block_at x p))) (number_at 4 (block_at x p) 8) in
      let E : List Entry → Type 0 = λ fs. Bears k w (suc l) p fs (number_at 4 (block_at x p) 8) in
      let N : ℕ → Type 0 = λ i. Bears k w (suc l) p (take lead.index ups ++ (record { key = key; address = n } ∷ new ∷ drop (suc lead.index) ups)) i in
      let c1 = change-join 1 0 f s.formatted some s.size s.change t1.change in
      let size-x : x.size ≡ u.size = t1.size ∙ s.size in
      let c2 = change-join 1 0 f t1.formatted some size-x c1 t2.change in
      let count : ℕ = (header_of w.image).count in
      record {
        block = m;
        fresh = d.fresh;
        size = t2.size ∙ size-x;
        formatted = t2.formatted;
        others = λ b kind q1 q2. t2.others b (t1.stay b (s.stay b kind)) q2 q2 ∙ t1.others b (s.stay b kind) q2 q2 ∙ s.others b kind q1 (apart-new b kind);
        stay = λ b kind. t2.stay b (t1.stay b (s.stay b kind));
        back = λ b kind.
            let in-x : IsKind x 2 b = elim (t2.back b kind) [ inl old ↦ old | inr e ↦ subst (K x) (sym e) e2.edit.was ] in
            let in-v : IsKind v 2 b = elim (t1.back b in-x) [ inl old ↦ old | inr e ↦ subst (K v) (sym e) e1.edit.was ] in
            s.back b in-v;
        low = bears-kept k l n p (take cut.half es) m e2.edit apart-n (bears-kept k l n p (take cut.half es) m e1.edit apart-n d.low);
        high = bears-kept k l m p (drop cut.half es) cut.next e2.edit apart-m (bears-kept k l m p (drop cut.half es) cut.next e1.edit apart-m d.high);
        upper = subst N behind (subst E all (subst L level e2.bears));
        change = c2;
        header = t2.header ∙ ap (λ (h : Header). record h { count = count }) t1.header ∙ ap (λ (h : Header). record h { count = count }) s.header;
        spares = (let a = s.spares in let b = t1.spares in let c = t2.spares in omega arith);
      }
