use Rattle.std.proofs.Common.{◌≡◌, ◌*◌, ◌<◌, ℕ, List, Bool, false, length, sym, ap, subst, ◌∙◌}
use Rattle.hd_volume.specs.Indexes.{root_key_length}
use Rattle.hd_check_index.specs.declared.noted_blocks.ChainedBlock.{ChainedBlock}
use Rattle.hd_check_blocks.specs.Phases.{IsLeastOf}
use Rattle.hd_check_index.specs.Marks.{AreMarkedBefore, mark_at}
use Rattle.hd_check_index.specs.IndexPhases.{IsChainable, IsWalked, index_block_at}
use Rattle.hd_check_index.proofs.IndexTables.{among}
use Rattle.hd_check_index.proofs.FormFaults.{place-fits}
use Rattle.hd_check_index.proofs.Walks.{walked-chain, walked-formed, unmarked-least}
use Rattle.hd_check_index.proofs.block_chain.unreached_block_fault.Goals as goal
use Rattle.hd_image.specs.declared.line.Line.TheVariants.{UnreachedBlock}

pub returns-in-None-clause-none : goal.returns-in-None-clause-none
returns-in-None-clause-none c = λ d v table top right once of.
    let bs : List ChainedBlock = c.args.blocks.now in
    let h : IsChainable (root_key_length d.types) v bs c.args.top = record { table = table; top_is = top; right = right; once = once } in
    let view : c.deref.result.now ≡ c.walk.new.marks.items = c.deref.ensures.value in
    walked-formed d v bs c.args.top h of c.walk.new.chain.items c.walk.new.marks.items (c.in_ok-walk.ensures.walked (root_key_length d.types) v h)
    (subst (λ (ms : List Bool). AreMarkedBefore (length bs) ms) view c.in-None.ensures.none)

pub returns-in-None-clause-chain : goal.returns-in-None-clause-chain
returns-in-None-clause-chain c = λ d v table top right once of.
    let bs : List ChainedBlock = c.args.blocks.now in
    let h : IsChainable (root_key_length d.types) v bs c.args.top = record { table = table; top_is = top; right = right; once = once } in
    walked-chain d v bs c.args.top h of c.walk.new.chain.items c.walk.new.marks.items (c.in_ok-walk.ensures.walked (root_key_length d.types) v h)

pub returns-clause-some : goal.returns-clause-some
returns-clause-some c = λ d v table top right once of size.
    let bs : List ChainedBlock = c.args.blocks.now in
    let h : IsChainable (root_key_length d.types) v bs c.args.top = record { table = table; top_is = top; right = right; once = once } in
    let view : c.deref.result.now ≡ c.walk.new.marks.items = c.deref.ensures.value in
    let walked : IsWalked v c.args.top bs c.walk.new.chain.items c.walk.new.marks.items = c.in_ok-walk.ensures.walked (root_key_length d.types) v h in
    let found = c.in-Some.ensures.some in
    let i : ℕ = found.0 in
    let n : ℕ = (index_block_at bs i).number in
    let there = (table.there (index_block_at bs i) (among bs i found.1)).0.there in
    let same : c.in-Some.n * c.args.size ≡ n * v.size = ap (λ (x : ℕ). x * c.args.size) found.2 ∙ ap (λ (z : ℕ). n * z) size in
    let place : c.block_address.result ≡ n * v.size = c.block_address.ensures (subst (λ (x : ℕ). x < 4294967296) (sym same) (place-fits d v n of there)) ∙ same in
    subst (IsLeastOf d v 10) (sym (c.at.ensures ∙ ap (λ (a : ℕ). record { line = UnreachedBlock; address = a; other = 0 }) place))
    (unmarked-least d v bs c.args.top h of c.walk.new.chain.items c.walk.new.marks.items walked i found.1
    (subst (λ (ms : List Bool). mark_at ms i ≡ false) view found.3) (subst (λ (ms : List Bool). AreMarkedBefore i ms) view found.4))
