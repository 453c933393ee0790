use Rattle.std.proofs.Common.{ℕ, Option, Some, ap, sym, refl, ◌∙◌}
use Rattle.std.specs.Prelude.{option_map}
use Rattle.hd_dbd.specs.Segment.{Segment}
use Rattle.hd_links.specs.Placed.{Placed}
use Rattle.hd_update.proofs.LastPaths.{stored_on, none_on}
use Rattle.hd_update.proofs.load_rule.code_on.Goals as goal

pub code_at-requires-clause-there : goal.code_at-requires-clause-there
code_at-requires-clause-there g c sound =
    let T = c.requires.last sound in
    (stored_on c.args.dbd.now c.args.volume.now c.args.path.now T.0 T.1 c.args.path.now refl c.args.place c.in-Some.address c.in-Some.ensures).there

pub returns-in-None-clause-value : goal.returns-in-None-clause-value
returns-in-None-clause-value g c f L =
    sym (ap (λ (o : Option Placed). option_map (λ (p : Placed). p.segment.code) o) (none_on c.args.dbd.now c.args.volume.now c.args.path.now f L c.args.path.now refl c.args.place c.in-None.ensures))

pub returns-in_ok-code-in-Some-clause-value : goal.returns-in_ok-code-in-Some-clause-value
returns-in_ok-code-in-Some-clause-value g c f L =
    let S = stored_on c.args.dbd.now c.args.volume.now c.args.path.now f L c.args.path.now refl c.args.place c.in-Some.address c.in-Some.ensures in
    ap (λ (k : ℕ). Some k) (c.in_ok-code-in-Some.ensures.value L.sound ∙ ap (λ (s : Segment). s.code) S.segment)
    ∙ sym (ap (λ (o : Option Placed). option_map (λ (p : Placed). p.segment.code) o) S.at)
