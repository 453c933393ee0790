use Rattle.std.proofs.Common.{◌∙◌}
use Rattle.hd_links.specs.Steps.{rows_of, address_at}
use Rattle.hd_session.proofs.tests_by_function.test_delete.Goals as goal

pub returns-clause-value : goal.returns-clause-value
returns-clause-value g c = λ f q at.
    c.delete_test.ensures (rows_of f) q (λ i. address_at f i, c.as_slice.ensures.value ∙ c.in_ok-held.ensures.value f q at)
