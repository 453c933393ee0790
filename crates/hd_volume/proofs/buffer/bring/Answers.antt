use Rattle.std.proofs.Common.{◌≡◌, ◌++◌, length, take, drop, sym, ◌∙◌, IsTrue, arith, rules}
use Rattle.std.proofs.lemmas.List.{take_at}
use Rattle.hd_bytes.specs.Blocks.{HasBlock}
use Rattle.hd_bytes.proofs.BlockLemmas.{with-own}
use Rattle.hd_volume.proofs.BufferLemmas.{other-put_in}
use Rattle.hd_volume.proofs.buffer.bring.Goals as goal

pub returns-clause-contents : goal.returns-clause-contents
returns-clause-contents g c h =
    let h1 : IsTrue (g.S.BlockStore.is_sound c.write_back.new.store) = rw c.in_ok-write_back.ensures.sound h in
    let e1 = c.in_ok-write_back.ensures.contents h in
    let e2 = c.in_ok-read.ensures.kept h1 in
    let e3 = c.in_ok-read.ensures.value h1 in
    let e4 : take c.write_back.new.buffer.bytes.len (c.read.new.buf ++ drop (length c.read.new.buf) c.write_back.new.buffer.bytes.items) ≡ c.read.new.buf =
    take_at c.read.new.buf _ _ (search rules) in
    let there : HasBlock (g.S.BlockStore.size c.args.store.now) (g.S.BlockStore.contents c.write_back.new.store) c.args.n =
    let n = c.in_ok-write_back.ensures.length h in let t = c.requires.there h in omega arith in
    rw (e4, e2, e3, c.write_back.ensures.size) (with-own (g.S.BlockStore.size c.args.store.now) c.args.n (g.S.BlockStore.contents c.write_back.new.store) there ∙ e1)

pub returns-clause-first : goal.returns-clause-first
returns-clause-first g c h there later =
    let h1 : IsTrue (g.S.BlockStore.is_sound c.write_back.new.store) = rw c.in_ok-write_back.ensures.sound h in
    let e1 = c.in_ok-write_back.ensures.contents h in
    let e2 = c.in_ok-read.ensures.kept h1 in
    rw (e2, e1)
    (other-put_in (g.S.BlockStore.size c.args.store.now) (g.S.BlockStore.contents c.args.store.now) c.args.buffer.now 0 c.requires.len (c.requires.ready h) there (λ holds e. later holds (sym e)))
