use Rattle.std.proofs.Common.{rules, ◌≡◌, ◌≤◌, ◌+◌, ◌*◌, ℕ, List, ◌++◌, replicate, refl, sym, ap, ◌∙◌, subst, arith}
use Rattle.hd_bytes.specs.Blocks.{grown}
use Rattle.hd_journal.specs.declared.head.Head.{Head}
use Rattle.hd_journal.specs.Log.{no_block, image}
use Rattle.hd_journal.specs.Framed.{IsFramed, IsSafe}
use Rattle.hd_journal.specs.Journals.{committed_in}
use Rattle.hd_journal.proofs.FrameLemmas.{resized, grown-framed, grown-image}
use Rattle.hd_journal.proofs.Held.{tried-sure, committed-same}
use Rattle.hd_journal.proofs.journal.Journal.grow.Goals as goal

pub returns-clause-kept : goal.returns-clause-kept
returns-clause-kept g c =
    let j = c.reserve.new.self in
    let k = c.reserve.ensures.kept in
    let a = g.D.Disk.state j.disk in
    let well = c.reserve.ensures.failed ∙ c.in-Ok.ensures.ok.0 in
    let more : c.from.result * c.from-2.result ≡ c.args.blocks * j.head.size = rw (c.from.ensures, c.from-2.ensures) refl in
    let len : j.head.len + c.args.blocks * j.head.size ≡ c.in-Some.len = search (rules, more) in
    let few : c.in-Some.len ≤ no_block * j.head.size = search (rules, c.most_len.ensures) in
    let items : j.places.items ++ replicate c.args.blocks 0 ≡ c.resize.new.self.items =
    resized j.places.items c.resize.new.self.items _ _ c.args.blocks c.in-Ok-resize.ensures.items (search rules) (search rules) in
    record {
      some = k.some;
      small = k.small;
      zeros = k.zeros;
      frame = k.frame;
      room = search rules;
      kept_room = search rules;
      fewer = search rules;
      same = ap (λ (x : Head). record x { len = c.in-Some.len }) k.same;
      later = k.later;
      longer = (let l = k.longer in omega (arith, l, len));
      usable = k.usable;
      sure = k.sure;
      framed = λ e h.
          subst (λ (xs : List ℕ). IsFramed a (record j.head { len = c.in-Some.len }) xs) items
          (subst (λ (n : ℕ). IsFramed a (record j.head { len = n }) (j.places.items ++ replicate c.args.blocks 0)) len
          (grown-framed a j.head j.places.items c.args.blocks (omega (arith, few, len)) (k.framed well h)));
      last = k.last;
      holds = k.holds;
      first = k.first;
      marked = k.marked;
      safe = λ h. subst (λ (x : List ℕ). IsSafe (committed_in (image j.last a.log a.volume) x a.marks) a) (tried-sure j.stage (image j.last a.log a.volume) _ (k.sure well) ∙ sym (tried-sure j.stage (image j.last a.log a.volume) _ (k.sure well))) (k.safe h);
    }

pub returns-clause-value : goal.returns-clause-value
returns-clause-value g c h =
    let j = c.reserve.new.self in
    let k = c.reserve.ensures.kept in
    let a = g.D.Disk.state j.disk in
    let more : c.from.result * c.from-2.result ≡ c.args.blocks * j.head.size = rw (c.from.ensures, c.from-2.ensures) refl in
    let len : j.head.len + c.args.blocks * j.head.size ≡ c.in-Some.len = search (rules, more) in
    let few : c.in-Some.len ≤ no_block * j.head.size = search (rules, c.most_len.ensures) in
    ap (λ (n : ℕ). image (record j.head { len = n }) a.log a.volume) (sym len)
    ∙ grown-image a j.head j.places.items c.args.blocks (omega (arith, few, len)) (k.framed (c.reserve.ensures.failed ∙ c.in-Ok.ensures.ok.0) h)
    ∙ ap (λ (n : ℕ). grown n (image j.head a.log a.volume) c.args.blocks) (c.reserve.ensures.size ∙ c.make_room.ensures.size)
    ∙ ap (λ (xs : List ℕ). grown c.args.self.now.head.size xs c.args.blocks) (c.reserve.ensures.contents ∙ c.in-Ok.ensures.contents h)

pub returns-clause-committed : goal.returns-clause-committed
returns-clause-committed g c h =
    let j = c.reserve.new.self in
    let k = c.reserve.ensures.kept in
    let a = g.D.Disk.state j.disk in
    committed-same j.stage (image j.last a.log a.volume) (image j.last a.log a.volume) _ _ a.marks a.marks (k.sure (c.reserve.ensures.failed ∙ c.in-Ok.ensures.ok.0)) refl refl
    ∙ c.reserve.ensures.committed ∙ c.make_room.ensures.committed h
