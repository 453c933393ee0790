use Rattle.std.proofs.Common.{rules, ◌≡◌, ◌∷◌, [], ◌++◌, ℕ, List, append_assoc, sym, ap, ◌∙◌}
use Rattle.hd_volume.specs.Entries.{entries_at}
use Rattle.hd_index_blocks.specs.Levels.{named}
use Rattle.hd_check_index.proofs.TwiceNamedBelow.{named-more}
use Rattle.hd_check_index.proofs.names.push_names.Goals as goal

pub loop-index-preserved : goal.loop-index-preserved
loop-index-preserved c =
    let k : ℕ = c.args.upper.now.key_length in
    let b : List ℕ = c.args.upper.now.bytes.now in
    let i : ℕ = c.loop-index.index in
    let pushed : c.push.new.self.items ≡ c.loop-index.names.items ++ (c.address.result ∷ []) = search rules in
    pushed ∙ ap (λ (ns : List ℕ). ns ++ (c.address.result ∷ [])) c.loop-index.invariant
    ∙ append_assoc c.args.names.now.items (named (entries_at k b 12 i)) (c.address.result ∷ [])
    ∙ ap (λ (a : ℕ). c.args.names.now.items ++ (named (entries_at k b 12 i) ++ (a ∷ []))) c.address.ensures
    ∙ ap (λ (ns : List ℕ). c.args.names.now.items ++ ns) (sym (named-more k b i))
