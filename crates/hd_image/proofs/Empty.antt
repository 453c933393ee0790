-- A new volume holds the forest without rows.
use Rattle.std.proofs.Common.{◌≡◌, ℕ, zero, suc, ◌*◌, ◌<◌, ◌≤◌, List, [], length, Bool, false, ◌||◌, ◌==◌, refl, sym, ap, ap₂, subst, ◌∙◌, Option, arith, ne_eqb, inl, inr}
use Rattle.std.specs.Prelude.{is_some}
use Rattle.std.proofs.Math.Nat.{mul-le-mul_right}
use Rattle.std.proofs.lemmas.Bool.{eq-eqb, cond-true, false≢true}
use Rattle.hd_bytes.specs.Blocks.{HasBlock}
use Rattle.hd_dbd.specs.Hierarchy.{Database}
use Rattle.hd_dbd.specs.Forest.{empty}
use Rattle.hd_dbd.proofs.StoredSizes.{block_size-bounds}
use Rattle.hd_volume.specs.Headers.{Header, header_of}
use Rattle.hd_volume.specs.Volumes.{VolumeState}
use Rattle.hd_volume.specs.Creates.{IsCreated}
use Rattle.hd_volume.specs.Indexes.{root_key_length}
use Rattle.hd_index_blocks.specs.IndexSets.{index_entries, HasIndexOf}
use Rattle.hd_index_blocks.proofs.NoBlocks.{set-empty, empty-entries}
use Rattle.hd_links.specs.Links.{IsSegment}
use Rattle.hd_links.specs.Placed.{Holds}
use Rattle.hd_image.specs.Records.{links_of}
use Rattle.hd_image.specs.Laws.{IsDatabase, NewVolumesAreEmpty}

-- an image of one block has no other
one-block : (size n : ℕ) (image : List ℕ) → 0 < size → length image ≡ size → HasBlock size image n → 0 < n → ⊥
one-block size n image some one there later =
    let more : 1 * size ≤ n * size = mul-le-mul_right size later in omega arith

module _ (d : Database) (v : VolumeState) (largest : ℕ) (fit : IsDatabase d) (size : v.size ≡ d.block_size) (created : IsCreated d.name d.block_size largest v) where
  none-later : (n : ℕ) → HasBlock v.size v.image n → 0 < n → ⊥
  none-later n there later =
      let least = (block_size-bounds d.block_size d.frspc d.types fit).0 in
      one-block v.size n v.image (omega arith) (created.one ∙ sym size) there later

  no-segment : {A : Type 0} (a : ℕ) → IsSegment (links_of d.types v) a → A
  no-segment a s =
      let none : (links_of d.types v).here a ≡ false =
      ap₂ (λ (x : Bool) (o : Option (List ℕ)). x || is_some o) (ne_eqb a 0 (λ e. let some = s.some in omega arith)) (created.empty a) in
      absurd (false≢true (sym none ∙ s.here))

  no-entries : (key_length : ℕ) → index_entries key_length v ≡ []
  no-entries key_length = empty-entries key_length v (λ e. (let three = ap (λ (h : Header). h.version) created.header in omega arith)) (ap (λ (h : Header). h.top) created.header)

  holds-none : Holds d.types (links_of d.types v) empty
  holds-none = record {
    lies = record {
      roots = record { first = λ t child. ap (λ (h : Header). h.first_root) created.header; last = λ t child kept. ap (λ (h : Header). h.last_root) created.header };
      nodes = tt;
    };
    fits = refl;
    once = λ a s. no-segment a s;
  }

  has-none : (key_length : ℕ) → HasIndexOf key_length v
  has-none key_length = inr (set-empty key_length v created.formatted (λ e. (let three = ap (λ (h : Header). h.version) created.header in omega arith)) (ap (λ (h : Header). h.top) created.header)
      (ap (λ (h : Header). h.height) created.header) (λ n is. none-later n is.there is.later))

pub new-empty : NewVolumesAreEmpty
new-empty d v largest fit size sizes created = record {
  volume = record { fit = fit; formatted = created.formatted; size = size; sizes = sizes };
  version = inl (ap (λ (h : Header). h.version) created.header);
  name = ap (λ (h : Header). h.name) created.header;
  block_size = ap (λ (h : Header). h.block_size) created.header;
  records = holds-none d v largest fit size created;
  index = has-none d v largest fit size created (root_key_length d.types);
  entries = no-entries d v largest fit size created (root_key_length d.types);
  kinds = λ n there later. absurd (none-later d v largest fit size created n there later);
}
