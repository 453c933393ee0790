use Rattle.std.proofs.Common.{◌≡◌, List, ℕ, length, ap, subst, ◌∙◌, arith, IsPermutation, nat_eq}
use Rattle.hd_dbd.proofs.Distinct.{names_of, kept_names_differ}
use Rattle.hd_dbd.proofs.rules.field_names_differ.Goals as goal

pub returns : goal.returns
returns c =
    let moved : IsPermutation (names_of c.args.fields.now) c.sort_unstable.new.self.items =
    subst (λ (names : List (List ℕ)). IsPermutation names c.sort_unstable.new.self.items) c.in_ok-names.ensures c.sort_unstable.ensures.permutation in
    let long : c.len.result ≡ length c.dedup.new.self.items = omega arith in
    ap (λ (n : ℕ). nat_eq n (length c.args.fields.now)) long
    ∙ kept_names_differ c.args.fields.now c.sort_unstable.new.self.items c.dedup.new.self.items moved c.sort_unstable.ensures.sorted c.dedup.ensures.filtered
