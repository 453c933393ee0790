use Rattle.std.proofs.Common.{◌≡◌, ℕ, zero, suc, ◌-◌, List, [], ◌∷◌, Option, refl, sym, ◌∙◌}
use Rattle.std.specs.Prelude.{option_and_then, slice_get}
use Rattle.std.proofs.lemmas.Bool.{cond-true, cond-false}
use Rattle.hd_dbd.specs.declared.answer.LoadFault.{LoadFault}
use Rattle.hd_dbd.specs.Segment.{Segment}
use Rattle.hd_dbd.specs.Rows.{level}
use Rattle.hd_dbd.specs.Loads.{order_fault}
use Rattle.hd_volume.proofs.CallSteps.{if-ok}
use Rattle.hd_links.specs.Placed.{Placed}
use Rattle.hd_links.specs.LastRows.{last_on, segments_of}
use Rattle.hd_update.proofs.LastPaths.{last_read, has_last_read}
use Rattle.hd_volume.proofs.CallSteps.{reads-join}
use Rattle.hd_update.proofs.load_rule.load_fault.Goals as goal

-- what is asked of the segment at a place
segment_asked : (ask : Segment → Option LoadFault) (ps : List Placed) (n : ℕ)
    → option_and_then (λ (p : Placed). ask p.segment) (slice_get ps n) ≡ option_and_then (λ (s : Segment). ask s) (slice_get (segments_of ps) n)
segment_asked ask [] n = refl
segment_asked ask (p ∷ ps) zero = refl
segment_asked ask (p ∷ ps) (suc n) = segment_asked ask ps n

pub returns-then-branch-clause-value : goal.returns-then-branch-clause-value
returns-then-branch-clause-value g c f L = sym (cond-true _ _ _ (sym (c.in_ok-lacks_parent.ensures.value f L) ∙ c.if-branch.true))

pub fault_behind-requires : goal.fault_behind-requires
fault_behind-requires g c = record { last = has_last_read c.args.dbd.now c.args.volume.now c.lacks_parent.new.volume c.in_ok-lacks_parent.ensures.read c.args.path.now c.requires.last }

pub returns-clause-value : goal.returns-clause-value
returns-clause-value g c = if-ok c.fault_behind.result c.fault_behind.ensures.value (λ r value f L.
    let d = c.args.dbd.now in
    let row : Segment = record { code = c.args.code; bytes = c.args.bytes.now } in
    value f (last_read d c.args.volume.now c.lacks_parent.new.volume c.in_ok-lacks_parent.ensures.read c.args.path.now f L)
    ∙ segment_asked (λ (s : Segment). order_fault d.types s row) (last_on f) (level d.types row - 1)
    ∙ sym (cond-false _ _ _ (sym (c.in_ok-lacks_parent.ensures.value f L) ∙ c.if-branch.false)))

pub returns-clause-read : goal.returns-clause-read
returns-clause-read g c = reads-join c.fault_behind.result c.in_ok-lacks_parent.ensures.read c.fault_behind.ensures.read
