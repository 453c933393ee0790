use Rattle.std.specs.Io.KnownBytes.{prepend_known}
use Rattle.hd_serve.proofs.SoFar.{ends_behind, untils_behind, none_done}
use Rattle.hd_serve.proofs.desk.serve_all.Goals as goal

pub returns-in-Ok-clause-serves : goal.returns-in-Ok-clause-serves
returns-in-Ok-clause-serves g c =
    ends_behind c.args.desk.now.limits c.args.session.now c.serve_requests.new.session (prepend_known c.args.desk.now.buffer (g.I.Read.remaining c.args.input.now))
    (prepend_known c.serve_requests.new.desk.buffer (g.I.Read.remaining c.serve_requests.new.input)) c.args.first.now
    (g.W.Write.contents c.args.out.now) (g.W.Write.contents c.put_frame.new.out) (g.W.Write.contents c.serve_requests.new.out) c.in-Ok.ensures c.serve_requests.result c.serve_requests.ensures.serves

pub returns-in-Ok-clause-until : goal.returns-in-Ok-clause-until
returns-in-Ok-clause-until g c =
    untils_behind c.args.desk.now.limits c.args.session.now c.serve_requests.new.session (prepend_known c.args.desk.now.buffer (g.I.Read.remaining c.args.input.now))
    (prepend_known c.serve_requests.new.desk.buffer (g.I.Read.remaining c.serve_requests.new.input)) c.args.first.now
    (g.W.Write.contents c.args.out.now) (g.W.Write.contents c.put_frame.new.out) (g.W.Write.contents c.serve_requests.new.out) c.in-Ok.ensures c.serve_requests.result c.serve_requests.ensures.until

pub returns-in-Err-clause-until : goal.returns-in-Err-clause-until
returns-in-Err-clause-until g c =
    none_done c.args.desk.now.limits c.args.session.now (prepend_known c.args.desk.now.buffer (g.I.Read.remaining c.args.input.now)) c.requires.whole
