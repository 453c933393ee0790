use Rattle.std.proofs.Common.{◌≡◌, ℕ, List, Bool, sym, subst}
use Rattle.hd_volume.specs.Entries.{entry_blocks}
use Rattle.hd_volume.specs.Indexes.{root_key_length}
use Rattle.hd_check_index.specs.declared.noted_blocks.ChainedBlock.{ChainedBlock}
use Rattle.hd_check_index.specs.IndexPhases.{IsChainable, IsWalked, AreMarks}
use Rattle.hd_check_index.proofs.Walks.{walked-chain}
use Rattle.hd_check_index.proofs.block_chain.unreached_block_faults.Goals as goal

pub returns-clause-faults : goal.returns-clause-faults
returns-clause-faults c = λ d v table top right once of size.
    let bs : List ChainedBlock = c.args.blocks.now in
    let h : IsChainable (root_key_length d.types) v bs c.args.top = record { table = table; top_is = top; right = right; once = once } in
    let view : c.deref.result.now ≡ c.walk.new.marks.items = c.deref.ensures.value in
    let walked : IsWalked v c.args.top bs c.walk.new.chain.items c.walk.new.marks.items = c.in_ok-walk.ensures.walked (root_key_length d.types) v h in
    let own : AreMarks bs (entry_blocks v) c.walk.new.marks.items =
    subst (λ (ns : List ℕ). AreMarks bs ns c.walk.new.marks.items) (walked-chain d v bs c.args.top h of c.walk.new.chain.items c.walk.new.marks.items walked) walked.are_marks in
    c.unmarked_faults.ensures.faults c.args.top d v table top right of size (subst (λ (ms : List Bool). AreMarks bs (entry_blocks v) ms) (sym view) own)
