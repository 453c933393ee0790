use Rattle.std.proofs.Common.{List, ℕ, Option}
use Rattle.std.specs.Io.KnownBytes.{prepend_known}
use Rattle.hd_deck.specs.Commits.{Stored}
use Rattle.hd_serve.proofs.Closing.{served_out, left_at, any_broken, on_ok}
use Rattle.hd_serve.proofs.service.serve_and_close.Goals as goal

pub returns-in-Ok-clause-serves : goal.returns-in-Ok-clause-serves
returns-in-Ok-clause-serves g c =
    let left : Stored = record { bytes = g.S.BlockStore.contents c.close-store.result.0; committed = g.S.BlockStore.committed c.close-store.result.0 } in
    let input : Option (List ℕ) = prepend_known c.args.desk.now.buffer (g.I.Read.remaining c.args.input.now) in
    let after : Option (List ℕ) = prepend_known c.serve_all-served.new.desk.buffer (g.I.Read.remaining c.serve_all-served.new.input) in
    served_out c.args.desk.now.limits c.args.session c.serve_all-served.new.session left c.close-store.ensures.committed
    (on_ok c.close-store.result.1 c.if-is_err.ensures.value c.close-store.ensures.closed) c.in-Ok.ending input after c.args.first.now
    (g.W.Write.contents c.args.out.now) (g.W.Write.contents c.serve_all-served.new.out) c.in-Ok.count.calls c.in-Ok.count.memory c.in-Ok.ensures.whole c.in-Ok.ensures.serves

pub returns-in-Err-clause-leaves : goal.returns-in-Err-clause-leaves
returns-in-Err-clause-leaves g c =
    let left : Stored = record { bytes = g.S.BlockStore.contents c.close-store.result.0; committed = g.S.BlockStore.committed c.close-store.result.0 } in
    left_at c.args.desk.now.limits c.args.session c.serve_all-served.new.session left c.close-store.ensures.committed
    (on_ok c.close-store.result.1 c.if-is_err.ensures.value c.close-store.ensures.closed) (prepend_known c.args.desk.now.buffer (g.I.Read.remaining c.args.input.now)) c.args.first.now
    (g.W.Write.contents c.args.out.now) (g.W.Write.contents c.serve_all-served.new.out) c.in-Err.stop c.in-Err.ensures.stops c.in-Err.ensures.until

pub returns-then-is_err-clause-leaves : goal.returns-then-is_err-clause-leaves
returns-then-is_err-clause-leaves g c =
    let left : Stored = record { bytes = g.S.BlockStore.contents c.close-store.result.0; committed = g.S.BlockStore.committed c.close-store.result.0 } in
    let input : Option (List ℕ) = prepend_known c.args.desk.now.buffer (g.I.Read.remaining c.args.input.now) in
    let after : Option (List ℕ) = prepend_known c.serve_all-served.new.desk.buffer (g.I.Read.remaining c.serve_all-served.new.input) in
    any_broken c.args.session c.serve_all-served.new.session left c.close-store.ensures.committed c.args.desk.now.limits input after c.args.first.now
    (g.W.Write.contents c.args.out.now) (g.W.Write.contents c.serve_all-served.new.out) c.serve_all-served.result c.serve_all-served.ensures.serves c.serve_all-served.ensures.until
