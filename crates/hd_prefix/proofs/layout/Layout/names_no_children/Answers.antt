use Rattle.std.proofs.Common.{◌≡◌, ℕ, List, refl, sym, subst, ◌∙◌, arith, true, false}
use Rattle.hd_dbd.specs.Types.{SegmentType}
use Rattle.hd_prefix.specs.Fields.{twins_end}
use Rattle.hd_prefix.proofs.NewSegments.{number_zero}
use Rattle.hd_prefix.proofs.Childless.{AreFours, fours-begin, fours-more, zeros-more, first-none, last-none}
use Rattle.hd_prefix.proofs.layout.Layout.names_no_children.Goals as goal

pub loop-place-init : goal.loop-place-init
loop-place-init c =
    let types : List SegmentType = c.args.self.now.dbd.now.types in
    let code : ℕ = c.args.self.now.code in
    let at : c.twins_end-place.result ≡ twins_end types code = c.twins_end-place.ensures in
    record {
      begins = omega arith;
      zeros = λ i low high. absurd (omega arith);
      fours = subst (λ (p : ℕ). AreFours p c.prefix_length-end.result) (sym at) (subst (AreFours (twins_end types code)) (sym c.prefix_length-end.ensures) (fours-begin types code));
    }

pub read_u32-requires : goal.read_u32-requires
read_u32-requires c =
    let more = (fours-more c.loop-place.place c.prefix_length-end.result c.loop-place-test.true c.loop-place.invariant.fours).0 in
    let whole = c.requires in
    let end = c.prefix_length-end.ensures in
    omega arith

pub returns-then-read_u32-ne0-clause-bytes : goal.returns-then-read_u32-ne0-clause-bytes
returns-then-read_u32-ne0-clause-bytes c =
    let types : List SegmentType = c.args.self.now.dbd.now.types in
    let code : ℕ = c.args.self.now.code in
    let i = c.loop-place.invariant in
    let begins = i.begins in
    let more = (fours-more c.loop-place.place c.prefix_length-end.result c.loop-place-test.true i.fours).0 in
    let end = c.prefix_length-end.ensures in (
      λ no. absurd (never no),
      λ none. absurd (c.if-read_u32-ne0.true (c.read_u32.ensures ∙ number_zero 4 c.loop-place.place c.args.segment.now (λ k l m. none k (omega arith) (omega arith)))),
    )
  where
    never : false ≡ true → ⊥
    never e = cc

pub loop-place-preserved : goal.loop-place-preserved
loop-place-preserved c =
    let types : List SegmentType = c.args.self.now.dbd.now.types in
    let code : ℕ = c.args.self.now.code in
    let i = c.loop-place.invariant in
    let begins = i.begins in
    record {
      begins = omega arith;
      zeros = zeros-more c.args.segment.now (twins_end types code) c.loop-place.place i.zeros (sym c.read_u32.ensures ∙ c.if-read_u32-ne0.false);
      fours = (fours-more c.loop-place.place c.prefix_length-end.result c.loop-place-test.true i.fours).1;
    }

pub returns-clause-bytes : goal.returns-clause-bytes
returns-clause-bytes c =
    let i = c.loop-place.invariant in
    let past = c.loop-place-test.false in
    let end = c.prefix_length-end.ensures in
    (λ yes k low high. i.zeros k low (omega arith), λ none. refl)

pub returns-clause-firsts : goal.returns-clause-firsts
returns-clause-firsts c = λ yes t.
    let d = c.args.self.now.dbd.now in
    let i = c.loop-place.invariant in
    let past = c.loop-place-test.false in
    let end = c.prefix_length-end.ensures in
    first-none d.block_size d.frspc d.types c.args.self.now.code c.args.segment.now t c.types-types.ensures.fit (λ k low high. i.zeros k low (omega arith))

pub returns-clause-lasts : goal.returns-clause-lasts
returns-clause-lasts c = λ yes t.
    let d = c.args.self.now.dbd.now in
    let i = c.loop-place.invariant in
    let past = c.loop-place-test.false in
    let end = c.prefix_length-end.ensures in
    last-none d.block_size d.frspc d.types c.args.self.now.code c.args.segment.now t c.types-types.ensures.fit (λ k low high. i.zeros k low (omega arith))
