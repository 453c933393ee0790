use Rattle.std.proofs.Common.{rules, ◌≡◌, ◌+◌, ◌-◌, ◌≤◌, ℕ, [], ◌∷◌, ap, ◌∙◌, subst}
use Rattle.std.proofs.lemmas.Result.{on_ok_weaker}
use Rattle.hd_bytes.specs.Ranges.{bytes_at}
use Rattle.hd_journal.specs.Disk.{WritesLog}
use Rattle.hd_journal.specs.Log.{gate_at, no_block}
use Rattle.hd_journal.specs.Framed.{before}
use Rattle.hd_journal.proofs.Continues.{next-of, slots-1, leaves-1, slots-2, leaves-2, slots-3, leaves-3, slots-4, leaves-4, slots-5, leaves-5, published-5}
use Rattle.hd_journal.proofs.following.publish_next.Goals as goal

pub returns-in_err-append_gate-clause-slots : goal.returns-in_err-append_gate-clause-slots
returns-in_err-append_gate-clause-slots g c h =
    let last = c.args.last in
    let p = c.requires.published h in
    let few : c.args.head.count ≤ no_block = search rules in
    slots-1 (before last) c.args.head (c.args.head.count - last.count) (g.D.Disk.state c.args.disk.now) (g.D.Disk.state c.append_gate.new.disk) (g.D.Disk.state c.append_gate.new.disk) (g.D.Disk.state c.append_gate.new.disk) (g.D.Disk.state c.append_gate.new.disk) (g.D.Disk.state c.append_gate.new.disk) c.args.zeros.now p.1 (c.requires.fits h) (next-of last c.args.head c.requires.same p.0 c.requires.later) c.requires.longer few
    (c.append_gate.ensures.writes h)

pub returns-in_err-append_gate-clause-leaves : goal.returns-in_err-append_gate-clause-leaves
returns-in_err-append_gate-clause-leaves g c h =
    let last = c.args.last in
    let p = c.requires.published h in
    let few : c.args.head.count ≤ no_block = search rules in
    leaves-1 (before last) c.args.head (c.args.head.count - last.count) (g.D.Disk.state c.args.disk.now) (g.D.Disk.state c.append_gate.new.disk) (g.D.Disk.state c.append_gate.new.disk) (g.D.Disk.state c.append_gate.new.disk) (g.D.Disk.state c.append_gate.new.disk) (g.D.Disk.state c.append_gate.new.disk) c.args.zeros.now p.1 (c.requires.fits h) (next-of last c.args.head c.requires.same p.0 c.requires.later) c.requires.longer few
    (c.append_gate.ensures.writes h)

pub returns-in_err-write_log-clause-slots : goal.returns-in_err-write_log-clause-slots
returns-in_err-write_log-clause-slots g c h =
    let last = c.args.last in
    let p = c.requires.published h in
    let few : c.args.head.count ≤ no_block = search rules in
    let place : c.gate_place-place.result ≡ gate_at (before last) = c.gate_place-place.ensures ∙ ap gate_at c.before-2.ensures in
    slots-2 (before last) c.args.head (c.args.head.count - last.count) (g.D.Disk.state c.args.disk.now) (g.D.Disk.state c.append_gate.new.disk) (g.D.Disk.state c.write_log.new.self) (g.D.Disk.state c.write_log.new.self) (g.D.Disk.state c.write_log.new.self) (g.D.Disk.state c.write_log.new.self) c.put_next.new.bytes p.1 (c.requires.fits h) (next-of last c.args.head c.requires.same p.0 c.requires.later) c.requires.longer few
    (c.append_gate.ensures.writes h) (subst (λ (m : ℕ). WritesLog (m + 1) 12 (g.D.Disk.state c.append_gate.new.disk) (g.D.Disk.state c.write_log.new.self)) place (rw c.put_next.ensures.len at (c.write_log.ensures.writes h)))

pub returns-in_err-write_log-clause-leaves : goal.returns-in_err-write_log-clause-leaves
returns-in_err-write_log-clause-leaves g c h =
    let last = c.args.last in
    let p = c.requires.published h in
    let few : c.args.head.count ≤ no_block = search rules in
    let place : c.gate_place-place.result ≡ gate_at (before last) = c.gate_place-place.ensures ∙ ap gate_at c.before-2.ensures in
    leaves-2 (before last) c.args.head (c.args.head.count - last.count) (g.D.Disk.state c.args.disk.now) (g.D.Disk.state c.append_gate.new.disk) (g.D.Disk.state c.write_log.new.self) (g.D.Disk.state c.write_log.new.self) (g.D.Disk.state c.write_log.new.self) (g.D.Disk.state c.write_log.new.self) c.put_next.new.bytes p.1 (c.requires.fits h) (next-of last c.args.head c.requires.same p.0 c.requires.later) c.requires.longer few
    (c.append_gate.ensures.writes h) (subst (λ (m : ℕ). WritesLog (m + 1) 12 (g.D.Disk.state c.append_gate.new.disk) (g.D.Disk.state c.write_log.new.self)) place (rw c.put_next.ensures.len at (c.write_log.ensures.writes h)))

pub returns-in_err-sync_log-clause-slots : goal.returns-in_err-sync_log-clause-slots
returns-in_err-sync_log-clause-slots g c h =
    let last = c.args.last in
    let p = c.requires.published h in
    let few : c.args.head.count ≤ no_block = search rules in
    let place : c.gate_place-place.result ≡ gate_at (before last) = c.gate_place-place.ensures ∙ ap gate_at c.before-2.ensures in
    slots-3 (before last) c.args.head (c.args.head.count - last.count) (g.D.Disk.state c.args.disk.now) (g.D.Disk.state c.append_gate.new.disk) (g.D.Disk.state c.write_log.new.self) (g.D.Disk.state c.sync_log.new.self) (g.D.Disk.state c.sync_log.new.self) (g.D.Disk.state c.sync_log.new.self) c.put_next.new.bytes p.1 (c.requires.fits h) (next-of last c.args.head c.requires.same p.0 c.requires.later) c.requires.longer few
    (c.append_gate.ensures.writes h) (subst (λ (m : ℕ). WritesLog (m + 1) 12 (g.D.Disk.state c.append_gate.new.disk) (g.D.Disk.state c.write_log.new.self)) place (rw c.put_next.ensures.len at (c.write_log.ensures.writes h))) (c.sync_log.ensures.syncs h)

pub returns-in_err-sync_log-clause-leaves : goal.returns-in_err-sync_log-clause-leaves
returns-in_err-sync_log-clause-leaves g c h =
    let last = c.args.last in
    let p = c.requires.published h in
    let few : c.args.head.count ≤ no_block = search rules in
    let place : c.gate_place-place.result ≡ gate_at (before last) = c.gate_place-place.ensures ∙ ap gate_at c.before-2.ensures in
    leaves-3 (before last) c.args.head (c.args.head.count - last.count) (g.D.Disk.state c.args.disk.now) (g.D.Disk.state c.append_gate.new.disk) (g.D.Disk.state c.write_log.new.self) (g.D.Disk.state c.sync_log.new.self) (g.D.Disk.state c.sync_log.new.self) (g.D.Disk.state c.sync_log.new.self) c.put_next.new.bytes p.1 (c.requires.fits h) (next-of last c.args.head c.requires.same p.0 c.requires.later) c.requires.longer few
    (c.append_gate.ensures.writes h) (subst (λ (m : ℕ). WritesLog (m + 1) 12 (g.D.Disk.state c.append_gate.new.disk) (g.D.Disk.state c.write_log.new.self)) place (rw c.put_next.ensures.len at (c.write_log.ensures.writes h))) (c.sync_log.ensures.syncs h)

pub returns-in_err-write_log-2-clause-slots : goal.returns-in_err-write_log-2-clause-slots
returns-in_err-write_log-2-clause-slots g c h =
    let last = c.args.last in
    let p = c.requires.published h in
    let few : c.args.head.count ≤ no_block = search rules in
    let place : c.gate_place-place.result ≡ gate_at (before last) = c.gate_place-place.ensures ∙ ap gate_at c.before-2.ensures in
    slots-4 (before last) c.args.head (c.args.head.count - last.count) (g.D.Disk.state c.args.disk.now) (g.D.Disk.state c.append_gate.new.disk) (g.D.Disk.state c.write_log.new.self) (g.D.Disk.state c.sync_log.new.self) (g.D.Disk.state c.write_log-2.new.self) (g.D.Disk.state c.write_log-2.new.self) c.put_next.new.bytes p.1 (c.requires.fits h) (next-of last c.args.head c.requires.same p.0 c.requires.later) c.requires.longer few
    (c.append_gate.ensures.writes h) (subst (λ (m : ℕ). WritesLog (m + 1) 12 (g.D.Disk.state c.append_gate.new.disk) (g.D.Disk.state c.write_log.new.self)) place (rw c.put_next.ensures.len at (c.write_log.ensures.writes h))) (c.sync_log.ensures.syncs h) (g.D.Disk.state c.write_log-2.new.self).log (subst (λ (m : ℕ). WritesLog m 1 (g.D.Disk.state c.sync_log.new.self) (g.D.Disk.state c.write_log-2.new.self)) place (c.write_log-2.ensures.writes h)).log

pub returns-in_err-write_log-2-clause-leaves : goal.returns-in_err-write_log-2-clause-leaves
returns-in_err-write_log-2-clause-leaves g c h =
    let last = c.args.last in
    let p = c.requires.published h in
    let few : c.args.head.count ≤ no_block = search rules in
    let place : c.gate_place-place.result ≡ gate_at (before last) = c.gate_place-place.ensures ∙ ap gate_at c.before-2.ensures in
    leaves-4 (before last) c.args.head (c.args.head.count - last.count) (g.D.Disk.state c.args.disk.now) (g.D.Disk.state c.append_gate.new.disk) (g.D.Disk.state c.write_log.new.self) (g.D.Disk.state c.sync_log.new.self) (g.D.Disk.state c.write_log-2.new.self) (g.D.Disk.state c.write_log-2.new.self) c.put_next.new.bytes p.1 (c.requires.fits h) (next-of last c.args.head c.requires.same p.0 c.requires.later) c.requires.longer few
    (c.append_gate.ensures.writes h) (subst (λ (m : ℕ). WritesLog (m + 1) 12 (g.D.Disk.state c.append_gate.new.disk) (g.D.Disk.state c.write_log.new.self)) place (rw c.put_next.ensures.len at (c.write_log.ensures.writes h))) (c.sync_log.ensures.syncs h) (c.in_ok-append_gate.ensures.gate h) (subst (λ (m : ℕ). bytes_at (g.D.Disk.state c.write_log.new.self).log (m + 1) 12 ≡ c.put_next.new.bytes) place (rw c.put_next.ensures.len at (c.in_ok-write_log.ensures.value h))) c.put_next.ensures.len c.put_next.ensures.count c.put_next.ensures.image (c.in_ok-sync_log.ensures.durable h) (subst (λ (m : ℕ). WritesLog m 1 (g.D.Disk.state c.sync_log.new.self) (g.D.Disk.state c.write_log-2.new.self)) place (c.write_log-2.ensures.writes h))

pub returns-clause-slots : goal.returns-clause-slots
returns-clause-slots g c h =
    let last = c.args.last in
    let p = c.requires.published h in
    let few : c.args.head.count ≤ no_block = search rules in
    let place : c.gate_place-place.result ≡ gate_at (before last) = c.gate_place-place.ensures ∙ ap gate_at c.before-2.ensures in
    slots-5 (before last) c.args.head (c.args.head.count - last.count) (g.D.Disk.state c.args.disk.now) (g.D.Disk.state c.append_gate.new.disk) (g.D.Disk.state c.write_log.new.self) (g.D.Disk.state c.sync_log.new.self) (g.D.Disk.state c.write_log-2.new.self) (g.D.Disk.state c.sync_log-2.new.self) c.put_next.new.bytes p.1 (c.requires.fits h) (next-of last c.args.head c.requires.same p.0 c.requires.later) c.requires.longer few
    (c.append_gate.ensures.writes h) (subst (λ (m : ℕ). WritesLog (m + 1) 12 (g.D.Disk.state c.append_gate.new.disk) (g.D.Disk.state c.write_log.new.self)) place (rw c.put_next.ensures.len at (c.write_log.ensures.writes h))) (c.sync_log.ensures.syncs h) (c.in_ok-append_gate.ensures.gate h) (subst (λ (m : ℕ). bytes_at (g.D.Disk.state c.write_log.new.self).log (m + 1) 12 ≡ c.put_next.new.bytes) place (rw c.put_next.ensures.len at (c.in_ok-write_log.ensures.value h))) c.put_next.ensures.len c.put_next.ensures.count c.put_next.ensures.image (c.in_ok-sync_log.ensures.durable h) (subst (λ (m : ℕ). WritesLog m 1 (g.D.Disk.state c.sync_log.new.self) (g.D.Disk.state c.write_log-2.new.self)) place (c.write_log-2.ensures.writes h)) (c.sync_log-2.ensures.syncs h)

pub returns-clause-leaves : goal.returns-clause-leaves
returns-clause-leaves g c h =
    let last = c.args.last in
    let p = c.requires.published h in
    let few : c.args.head.count ≤ no_block = search rules in
    let place : c.gate_place-place.result ≡ gate_at (before last) = c.gate_place-place.ensures ∙ ap gate_at c.before-2.ensures in
    leaves-5 (before last) c.args.head (c.args.head.count - last.count) (g.D.Disk.state c.args.disk.now) (g.D.Disk.state c.append_gate.new.disk) (g.D.Disk.state c.write_log.new.self) (g.D.Disk.state c.sync_log.new.self) (g.D.Disk.state c.write_log-2.new.self) (g.D.Disk.state c.sync_log-2.new.self) c.put_next.new.bytes p.1 (c.requires.fits h) (next-of last c.args.head c.requires.same p.0 c.requires.later) c.requires.longer few
    (c.append_gate.ensures.writes h) (subst (λ (m : ℕ). WritesLog (m + 1) 12 (g.D.Disk.state c.append_gate.new.disk) (g.D.Disk.state c.write_log.new.self)) place (rw c.put_next.ensures.len at (c.write_log.ensures.writes h))) (c.sync_log.ensures.syncs h) (c.in_ok-append_gate.ensures.gate h) (subst (λ (m : ℕ). bytes_at (g.D.Disk.state c.write_log.new.self).log (m + 1) 12 ≡ c.put_next.new.bytes) place (rw c.put_next.ensures.len at (c.in_ok-write_log.ensures.value h))) c.put_next.ensures.len c.put_next.ensures.count c.put_next.ensures.image (c.in_ok-sync_log.ensures.durable h) (subst (λ (m : ℕ). WritesLog m 1 (g.D.Disk.state c.sync_log.new.self) (g.D.Disk.state c.write_log-2.new.self)) place (c.write_log-2.ensures.writes h)) (c.sync_log-2.ensures.syncs h)

pub returns-clause-published : goal.returns-clause-published
returns-clause-published g c =
    on_ok_weaker c.sync_log-2.result
    (λ durable h.
    let last = c.args.last in
    let p = c.requires.published h in
    let few : c.args.head.count ≤ no_block = search rules in
    let place : c.gate_place-place.result ≡ gate_at (before last) = c.gate_place-place.ensures ∙ ap gate_at c.before-2.ensures in
    let one = subst (λ (m : ℕ). bytes_at (g.D.Disk.state c.write_log-2.new.self).log m 1 ≡ 1 ∷ []) place (c.in_ok-write_log-2.ensures.value h) in
    published-5 (before last) c.args.head (c.args.head.count - last.count) (g.D.Disk.state c.args.disk.now) (g.D.Disk.state c.append_gate.new.disk) (g.D.Disk.state c.write_log.new.self) (g.D.Disk.state c.sync_log.new.self) (g.D.Disk.state c.write_log-2.new.self) (g.D.Disk.state c.sync_log-2.new.self) c.put_next.new.bytes p.1 (c.requires.fits h) (next-of last c.args.head c.requires.same p.0 c.requires.later) c.requires.longer few
    (c.append_gate.ensures.writes h) (subst (λ (m : ℕ). WritesLog (m + 1) 12 (g.D.Disk.state c.append_gate.new.disk) (g.D.Disk.state c.write_log.new.self)) place (rw c.put_next.ensures.len at (c.write_log.ensures.writes h))) (c.sync_log.ensures.syncs h) (c.in_ok-append_gate.ensures.gate h) (subst (λ (m : ℕ). bytes_at (g.D.Disk.state c.write_log.new.self).log (m + 1) 12 ≡ c.put_next.new.bytes) place (rw c.put_next.ensures.len at (c.in_ok-write_log.ensures.value h))) c.put_next.ensures.len c.put_next.ensures.count c.put_next.ensures.image (c.in_ok-sync_log.ensures.durable h) (subst (λ (m : ℕ). WritesLog m 1 (g.D.Disk.state c.sync_log.new.self) (g.D.Disk.state c.write_log-2.new.self)) place (c.write_log-2.ensures.writes h)) (c.sync_log-2.ensures.syncs h) one (durable h))
    c.sync_log-2.ensures.durable
