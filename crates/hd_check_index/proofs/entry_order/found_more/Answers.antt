use Rattle.std.proofs.Common.{Some, true, false, refl, ◌∙◌}
use Rattle.hd_image.specs.IndexFaults.{last_entry}
use Rattle.hd_check_index.proofs.OrderSteps.{found-more-some, found-more-none}
use Rattle.hd_check_index.proofs.entry_order.found_more.Goals as goal

pub returns-in-Some : goal.returns-in-Some
returns-in-Some c = λ o es l h. found-more-some o es (record { key = c.args.key.now; address = c.args.address }) (Some c.in-Some.other) (h ∙ c.in-Some.is) refl

pub returns-then-is_above : goal.returns-then-is_above
returns-then-is_above c = λ o es l h. found-more-none o es (record { key = c.args.key.now; address = c.args.address }) true (h ∙ c.in-None.is) (c.if-is_above.ensures (last_entry o es) l)

pub returns-else-is_above : goal.returns-else-is_above
returns-else-is_above c = λ o es l h. found-more-none o es (record { key = c.args.key.now; address = c.args.address }) false (h ∙ c.in-None.is) (c.if-is_above.ensures (last_entry o es) l)
