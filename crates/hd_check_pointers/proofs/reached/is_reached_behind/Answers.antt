use Rattle.std.proofs.Common.{◌-◌, sym, arith}
use Rattle.hd_check_pointers.proofs.Reaching.{reached-beside}
use Rattle.hd_check_pointers.proofs.reached.is_reached_behind.Goals as goal

pub returns-then-is_owned_as_before : goal.returns-then-is_owned_as_before
returns-then-is_owned_as_before c = λ d v M O known.
    let within = c.requires in
    let many = O.as_many in
    let same = c.is_owned_as_before.ensures c.if-is_owned_as_before.true (omega arith) in
    let some = same.0 in
    let before = known same.0 in
    record {
      right = λ is. reached-beside d v c.args.places.now M c.args.owners.now O c.args.number (c.args.number - 1) within (omega arith) same.1 (before.right is);
      wrong = λ is n r. (let b = reached-beside d v c.args.places.now M c.args.owners.now O (c.args.number - 1) c.args.number (omega arith) within (sym same.1) (n, r) in before.wrong is b.0 b.1);
    }

pub returns : goal.returns
returns c = λ d v M O known. record { right = c.is_reached.ensures.right d v M O; wrong = c.is_reached.ensures.wrong d v M O }
