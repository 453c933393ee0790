use Rattle.std.proofs.Common.{◌≡◌, ◌≢◌, ◌+◌, refl, sym, arith}
use Rattle.hd_bytes.specs.Numbers.{number_at}
use Rattle.hd_block.proofs.GiveLemmas.{none-behind, some-behind}
use Rattle.hd_block.proofs.gives.find_behind.Goals as goal
use Rattle.hd_block.proofs.gives.find_behind.Goals.{then-next-place-via-then-next-place, then-next-place-via-else-next-place+then-bytes-place-lt8}

pub returns-then-next-place-clause-found : goal.returns-then-next-place-clause-found
returns-then-next-place-clause-found c sizes xs some h =
    let b = c.args.bytes.now in
    let place = c.args.place in
    elim c.then-next-place.branch [
      | then-next-place-via-then-next-place w ↦
          let other : place ≢ c.args.next = λ u. w.if-next-place.true (sym u) in
          none-behind sizes b place c.args.next xs (record { more = 0; next = c.args.next }) some h other refl refl
      | then-next-place-via-else-next-place+then-bytes-place-lt8 w ↦
          let e : place ≡ c.args.next = sym w.if-next-place.false in
          let fits = (some-behind sizes b place c.args.next xs (record { more = number_at 2 b (place + 2); next = number_at 2 b place }) some h e refl refl).1 in
          let in_block = (some-behind sizes b place c.args.next xs (record { more = number_at 2 b (place + 2); next = number_at 2 b place }) some h e refl refl).2 in
          let short = w.if-bytes-place-lt8.true in
          absurd (omega arith)
    ]

pub returns-then-bytes-place-clause-found : goal.returns-then-bytes-place-clause-found
returns-then-bytes-place-clause-found c sizes xs some h =
    let b = c.args.bytes.now in
    let place = c.args.place in
    let e : place ≡ c.args.next = sym c.if-next-place.false in
    let in_block = (some-behind sizes b place c.args.next xs (record { more = c.read_u16-more.result; next = number_at 2 b place }) some h e c.read_u16-more.ensures refl).2 in
    absurd (omega arith)

pub returns-clause-found : goal.returns-clause-found
returns-clause-found c sizes xs some h =
    let e : c.args.place ≡ c.args.next = sym c.if-next-place.false in
    (some-behind sizes c.args.bytes.now c.args.place c.args.next xs (record { more = c.read_u16-more.result; next = c.read_u16-next.result }) some h e c.read_u16-more.ensures c.read_u16-next.ensures).0
