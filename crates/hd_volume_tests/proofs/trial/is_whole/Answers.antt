use Rattle.std.proofs.Common.{◌≡◌, ◌==◌, ℕ, ◌<◌, List, true, false, length, slice_index, Option, Some, None, inl, inr, refl, sym, ap, ◌∙◌, arith}
use Rattle.std.specs.Option.{option_map_or}
use Rattle.std.proofs.lemmas.Bool.{cases_eq, eq-eqb, eqb-true}
use Rattle.hd_dbd.specs.declared.facts.SegmentSize.{SegmentSize}
use Rattle.hd_dbd.specs.declared.facts.SegmentSize.TheVariants.{Fixed, Varying}
use Rattle.hd_dbd.specs.Types.{SegmentType}
use Rattle.hd_dbd.specs.Hierarchy.{type_of}
use Rattle.hd_dbd.specs.Prefixes.{prefix_length, size_with, stored_size}
use Rattle.hd_dbd.specs.Facts.{size_of_type, segment_size}
use Rattle.hd_dbd.specs.Lengths.{some_vary}
use Rattle.hd_dbd.proofs.StoredSizes.{stored_sizes-at}
use Rattle.hd_dbd.proofs.FixedLengths.{fixed-type}
use Rattle.hd_block.specs.Sizes.{size_by}
use Rattle.hd_volume_tests.proofs.trial.is_whole.Goals as goal

-- where no type's segments vary, each has the size of its type
fixed-size : (types : List SegmentType) (c : ℕ) (o : Option SegmentType) → some_vary types ≡ false → type_of types c ≡ o
    → segment_size types c ≡ Fixed (stored_size types c)
fixed-size types c None none is =
    ap (λ (o : Option SegmentType). option_map_or (λ t. size_of_type types c t) o (Fixed 0)) is
    ∙ sym (ap (λ (o : Option SegmentType). Fixed (option_map_or (λ t. size_with types c t.length) o 0)) is)
fixed-size types c (Some t) none is =
    ap (λ (o : Option SegmentType). option_map_or (λ t. size_of_type types c t) o (Fixed 0)) is
    ∙ ap (λ (o : Option ℕ). option_map_or (λ least. Varying (prefix_length types c) least t.length) o (Fixed (stored_size types c))) (fixed-type types c t none is)

pub returns : goal.returns
returns c is =
    let d = c.args.dbd.now in
    let bytes : List ℕ = c.args.bytes.now in
    let steady : some_vary d.types ≡ false = sym c.some_vary.ensures ∙ c.if-some_vary.false in
    let some : 0 < length bytes = elim (cases_eq (length bytes) 0) [
      | inl z ↦ (let e : (length bytes == 0) ≡ false = sym c.is_empty.ensures ∙ c.if-is_empty.false in let t : (length bytes == 0) ≡ true = eq-eqb (length bytes) 0 z in absurd (cc))
      | inr other ↦ omega arith
    ] in
    let len : length bytes ≡ c.stored_size.result = eqb-true (length bytes) c.stored_size.result is in (
      some,
      ap (λ (s : SegmentSize). size_by s bytes 0) (stored_sizes-at d.types (slice_index bytes 0))
          ∙ ap (λ (s : SegmentSize). size_by s bytes 0) (fixed-size d.types (slice_index bytes 0) (type_of d.types (slice_index bytes 0)) steady refl)
          ∙ sym c.stored_size.ensures ∙ sym len,
    )
