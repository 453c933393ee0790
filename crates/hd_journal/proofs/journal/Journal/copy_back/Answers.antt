use Rattle.std.proofs.Common.{rules, ◌≡◌, ◌-◌, ℕ, List, length, slice_index, replicate, refl, sym, ap, ◌∙◌, subst, arith}
use Rattle.std.proofs.lemmas.Bool.{true≢false}
use Rattle.hd_journal.specs.declared.head.Head.{Head}
use Rattle.hd_journal.specs.Disk.{Leaves}
use Rattle.hd_journal.specs.States.{StandsFor, IsShutBetween}
use Rattle.hd_journal.specs.Log.{image}
use Rattle.hd_journal.specs.Framed.{fresh, before, IsFramed, IsSafe}
use Rattle.hd_journal.specs.Journals.{committed_in}
use Rattle.hd_journal.proofs.Bytes.{length-image}
use Rattle.hd_journal.proofs.Slots.{fresh-image}
use Rattle.hd_journal.proofs.FrameLemmas.{fresh-framed, copied-framed, copied-image}
use Rattle.hd_journal.proofs.JournalLemmas.{collecting≢published, collecting≢doubtful}
use Rattle.hd_journal.proofs.Held.{before-image, copied-last, first-low, safe-same, tried-sure, committed-same}
use Rattle.hd_journal.proofs.Safety.{marks-same}
use Rattle.hd_journal.proofs.journal.Journal.copy_back.Goals as goal

pub returns-in_default-clause-kept : goal.returns-in_default-clause-kept
returns-in_default-clause-kept g c =
    let k = c.requires.kept in
    let j = c.args.self.now in
    let a = g.D.Disk.state j.disk in
    let b = g.D.Disk.state c.copy_commits.new.disk in
    record {
      some = k.some;
      small = k.small;
      zeros = k.zeros;
      frame = k.frame;
      room = k.room;
      kept_room = k.kept_room;
      fewer = k.fewer;
      same = k.same;
      later = k.later;
      longer = k.longer;
      usable = λ e. absurd (true≢false e);
      sure = λ e. absurd (true≢false e);
      framed = λ e. absurd (true≢false e);
      last = λ e. absurd (true≢false e);
      holds = λ e. absurd (true≢false e);
      first = λ e. absurd (true≢false e);
      marked = λ h.
          let held = (rw c.requires.published at (k.holds c.requires.well)) h in
          let o = k.last c.requires.well h in
          let last = copied-last j.last j.kept.items a b held.0 o held.1 (c.copy_commits.ensures.longer h) (c.copy_commits.ensures.behind h) (ap (λ (x : Head). image x b.log b.volume) (sym c.before-2.ensures) ∙ c.copy_commits.ensures.same h ∙ ap (λ (x : Head). image x a.log a.volume) c.before-2.ensures) in
          marks-same (image j.last a.log a.volume) (image j.last b.log b.volume) a.marks b.marks last (c.copy_commits.ensures.leaves h).marks (k.marked h);
      safe = λ h.
          let held = (rw c.requires.published at (k.holds c.requires.well)) h in
          let o = k.last c.requires.well h in
          let last = copied-last j.last j.kept.items a b held.0 o held.1 (c.copy_commits.ensures.longer h) (c.copy_commits.ensures.behind h) (ap (λ (x : Head). image x b.log b.volume) (sym c.before-2.ensures) ∙ c.copy_commits.ensures.same h ∙ ap (λ (x : Head). image x a.log a.volume) c.before-2.ensures) in
          let leaves : Leaves (StandsFor (image j.last a.log a.volume)) a b =
          subst (λ (x : List ℕ). Leaves (StandsFor x) a b) (ap (λ (x : Head). image x a.log a.volume) c.before-2.ensures ∙ sym (before-image j.last a held.0 held.1)) (c.copy_commits.ensures.leaves h) in
          safe-same j.stage a b (image j.last a.log a.volume) (image j.last b.log b.volume) _ _ (k.sure c.requires.well) last leaves (k.safe h);
    }

pub returns-in_default-clause-committed : goal.returns-in_default-clause-committed
returns-in_default-clause-committed g c h =
    let k = c.requires.kept in
    let j = c.args.self.now in
    let a = g.D.Disk.state j.disk in
    let b = g.D.Disk.state c.copy_commits.new.disk in
    let held = (rw c.requires.published at (k.holds c.requires.well)) h in
    let o = k.last c.requires.well h in
    committed-same j.stage (image j.last a.log a.volume) (image j.last b.log b.volume) _ _ a.marks b.marks (k.sure c.requires.well) (copied-last j.last j.kept.items a b held.0 o held.1 (c.copy_commits.ensures.longer h) (c.copy_commits.ensures.behind h) (ap (λ (x : Head). image x b.log b.volume) (sym c.before-2.ensures) ∙ c.copy_commits.ensures.same h ∙ ap (λ (x : Head). image x a.log a.volume) c.before-2.ensures)) (c.copy_commits.ensures.leaves h).marks

pub returns-in_default-clause-shut : goal.returns-in_default-clause-shut
returns-in_default-clause-shut g c h some =
    let k = c.requires.kept in
    let j = c.args.self.now in
    let a = g.D.Disk.state j.disk in
    let b = g.D.Disk.state c.copy_commits.new.disk in
    let held = (rw c.requires.published at (k.holds c.requires.well)) h in
    let o = k.last c.requires.well h in
    let front = first-low j.last j.kept.items a held.0 o held.1 some (k.first c.requires.well c.requires.published some) in
    let is : c.before-2.result ≡ before j.last = c.before-2.ensures in
    let runs = (rw is at (c.copy_commits.ensures.shut h)) front.2 (slice_index j.kept.items 0 - 1) front.0 front.1 in
    subst (λ (x : List ℕ). Leaves (IsShutBetween a.volume x) a b) (sym (before-image j.last a held.0 held.1)) runs

pub returns-clause-shut : goal.returns-clause-shut
returns-clause-shut g c h some =
    let k = c.requires.kept in
    let j = c.args.self.now in
    let a = g.D.Disk.state j.disk in
    let b = g.D.Disk.state c.copy_commits.new.disk in
    let held = (rw c.requires.published at (k.holds c.requires.well)) h in
    let o = k.last c.requires.well h in
    let front = first-low j.last j.kept.items a held.0 o held.1 some (k.first c.requires.well c.requires.published some) in
    let is : c.before-2.result ≡ before j.last = c.before-2.ensures in
    let runs = (rw is at (c.copy_commits.ensures.shut h)) front.2 (slice_index j.kept.items 0 - 1) front.0 front.1 in
    subst (λ (x : List ℕ). Leaves (IsShutBetween a.volume x) a b) (sym (before-image j.last a held.0 held.1)) runs

pub returns-clause-kept : goal.returns-clause-kept
returns-clause-kept g c =
    let k = c.requires.kept in
    let j = c.args.self.now in
    let a = g.D.Disk.state j.disk in
    let b = g.D.Disk.state c.copy_commits.new.disk in
    let last_is = c.fresh-self.ensures in
    let size : c.fresh-self.result.size ≡ j.last.size = ap (λ (x : Head). x.size) last_is in
    let count : c.fresh-self.result.count ≡ 0 = ap (λ (x : Head). x.count) last_is in
    let len : c.fresh-self.result.len ≡ j.last.len = ap (λ (x : Head). x.len) last_is in
    let based : Head = record j.head { base = j.last.len } in
    let blocks : length j.kept.items ≡ c.len-blocks.result = search rules in
    let items : replicate {A = ℕ} (length j.kept.items) 0 ≡ c.clear.new.places.items = ap (λ (n : ℕ). replicate {A = ℕ} n 0) blocks ∙ sym c.clear.ensures.items in
    record {
      some = k.some;
      small = k.small;
      zeros = k.zeros;
      frame = k.frame;
      room = k.room;
      kept_room = search rules;
      fewer = search rules;
      same = ap (λ (x : Head). record x { base = j.last.len }) k.same ∙ sym (ap (λ (x : Head). record x { count = j.head.count; len = j.head.len }) last_is);
      later = omega (arith, count);
      longer = (let l = k.longer in omega (arith, len, l));
      usable = λ e. c.in-Ok.ensures.usable;
      sure = λ e. collecting≢doubtful;
      framed = λ e h.
          let held = (rw c.requires.published at (k.holds c.requires.well)) h in
          let o = k.last c.requires.well h in
          let p : IsFramed a (record j.last { count = j.head.count; len = j.head.len }) j.places.items = subst (λ (x : Head). IsFramed a x j.places.items) k.same (k.framed c.requires.well h) in
          subst (λ (x : Head). IsFramed b x j.places.items) (sym (ap (λ (x : Head). record x { base = j.last.len }) k.same))
          (copied-framed a b j.last j.kept.items j.places.items j.head.count j.head.len o k.later k.longer p (c.copy_commits.ensures.longer h) (c.copy_commits.ensures.behind h) (c.in-Ok.ensures.done h ∙ ap (λ (x : Head). image x a.log a.volume) c.before-2.ensures ∙ sym (before-image j.last a held.0 held.1)));
      last = λ e h.
          let held = (rw c.requires.published at (k.holds c.requires.well)) h in
          let o = k.last c.requires.well h in
          let done : b.volume ≡ image j.last a.log a.volume = c.in-Ok.ensures.done h ∙ ap (λ (x : Head). image x a.log a.volume) c.before-2.ensures ∙ sym (before-image j.last a held.0 held.1) in
          let long : length b.volume ≡ j.last.len = ap length done ∙ length-image j.last a.log a.volume in
          let f = o.fits in
          let fresh-is = fresh-framed b j.last (length j.kept.items) f.some f.small (let x = f.frames in let y = c.copy_commits.ensures.longer h in omega (arith, x, y)) (let x = o.blocks in omega (arith, x, long)) (let x = f.few in omega (arith, x, long)) in
          subst (λ (xs : List ℕ). IsFramed b c.fresh-self.result xs) items (subst (λ (x : Head). IsFramed b x (replicate (length j.kept.items) 0)) (ap (fresh j.last) long ∙ sym last_is) fresh-is);
      holds = λ e h.
          let held = (rw c.requires.published at (k.holds c.requires.well)) h in
          let done : b.volume ≡ image j.last a.log a.volume = c.in-Ok.ensures.done h ∙ ap (λ (x : Head). image x a.log a.volume) c.before-2.ensures ∙ sym (before-image j.last a held.0 held.1) in
          let long : length b.volume ≡ j.last.len = ap length done ∙ length-image j.last a.log a.volume in
          (c.in-Ok.ensures.settled h, last_is ∙ sym (ap (λ (x : Head). fresh x (length b.volume)) last_is ∙ ap (fresh j.last) long));
      first = λ e p. absurd (collecting≢published p);
      marked = λ h.
          let held = (rw c.requires.published at (k.holds c.requires.well)) h in
          let done : b.volume ≡ image j.last a.log a.volume = c.in-Ok.ensures.done h ∙ ap (λ (x : Head). image x a.log a.volume) c.before-2.ensures ∙ sym (before-image j.last a held.0 held.1) in
          let long : length b.volume ≡ j.last.len = ap length done ∙ length-image j.last a.log a.volume in
          let last : image c.fresh-self.result b.log b.volume ≡ image j.last a.log a.volume = ap (λ (x : Head). image x b.log b.volume) (last_is ∙ ap (fresh j.last) (sym long)) ∙ fresh-image b j.last ∙ done in
          marks-same (image j.last a.log a.volume) (image c.fresh-self.result b.log b.volume) a.marks b.marks last (c.copy_commits.ensures.leaves h).marks (k.marked h);
      safe = λ h.
          let held = (rw c.requires.published at (k.holds c.requires.well)) h in
          let done : b.volume ≡ image j.last a.log a.volume = c.in-Ok.ensures.done h ∙ ap (λ (x : Head). image x a.log a.volume) c.before-2.ensures ∙ sym (before-image j.last a held.0 held.1) in
          let long : length b.volume ≡ j.last.len = ap length done ∙ length-image j.last a.log a.volume in
          let last : image c.fresh-self.result b.log b.volume ≡ image j.last a.log a.volume = ap (λ (x : Head). image x b.log b.volume) (last_is ∙ ap (fresh j.last) (sym long)) ∙ fresh-image b j.last ∙ done in
          let leaves : Leaves (StandsFor (image j.last a.log a.volume)) a b =
          subst (λ (x : List ℕ). Leaves (StandsFor x) a b) (ap (λ (x : Head). image x a.log a.volume) c.before-2.ensures ∙ sym (before-image j.last a held.0 held.1)) (c.copy_commits.ensures.leaves h) in
          subst (λ (x : List ℕ). IsSafe (committed_in (image c.fresh-self.result b.log b.volume) x b.marks) b) (tried-sure j.stage (image c.fresh-self.result b.log b.volume) (image j.head a.log a.volume) (k.sure c.requires.well))
          (safe-same j.stage a b (image j.last a.log a.volume) (image c.fresh-self.result b.log b.volume) _ (image j.head a.log a.volume) (k.sure c.requires.well) last leaves (k.safe h));
    }

pub returns-clause-contents : goal.returns-clause-contents
returns-clause-contents g c h =
    let k = c.requires.kept in
    let j = c.args.self.now in
    let a = g.D.Disk.state j.disk in
    let b = g.D.Disk.state c.copy_commits.new.disk in
    let held = (rw c.requires.published at (k.holds c.requires.well)) h in
    let o = k.last c.requires.well h in
    let p : IsFramed a (record j.last { count = j.head.count; len = j.head.len }) j.places.items = subst (λ (x : Head). IsFramed a x j.places.items) k.same (k.framed c.requires.well h) in
    ap (λ (x : Head). image (record x { base = j.last.len }) b.log b.volume) k.same
    ∙ copied-image a b j.last j.kept.items j.places.items j.head.count j.head.len o k.later k.longer p (c.copy_commits.ensures.longer h) (c.copy_commits.ensures.behind h) (c.in-Ok.ensures.done h ∙ ap (λ (x : Head). image x a.log a.volume) c.before-2.ensures ∙ sym (before-image j.last a held.0 held.1))
    ∙ ap (λ (x : Head). image x a.log a.volume) (sym k.same)

pub returns-clause-committed : goal.returns-clause-committed
returns-clause-committed g c h =
    let k = c.requires.kept in
    let j = c.args.self.now in
    let a = g.D.Disk.state j.disk in
    let b = g.D.Disk.state c.copy_commits.new.disk in
    let held = (rw c.requires.published at (k.holds c.requires.well)) h in
    let o = k.last c.requires.well h in
    let last_is = c.fresh-self.ensures in
    let done : b.volume ≡ image j.last a.log a.volume = c.in-Ok.ensures.done h ∙ ap (λ (x : Head). image x a.log a.volume) c.before-2.ensures ∙ sym (before-image j.last a held.0 held.1) in
    let long : length b.volume ≡ j.last.len = ap length done ∙ length-image j.last a.log a.volume in
    let last : image c.fresh-self.result b.log b.volume ≡ image j.last a.log a.volume = ap (λ (x : Head). image x b.log b.volume) (last_is ∙ ap (fresh j.last) (sym long)) ∙ fresh-image b j.last ∙ done in
    rw (tried-sure j.stage (image j.last a.log a.volume) (image j.head a.log a.volume) (k.sure c.requires.well), last, (c.copy_commits.ensures.leaves h).marks) refl

pub returns-clause-volume : goal.returns-clause-volume
returns-clause-volume g c h =
    let k = c.requires.kept in
    let j = c.args.self.now in
    let a = g.D.Disk.state j.disk in
    let b = g.D.Disk.state c.copy_commits.new.disk in
    let held = (rw c.requires.published at (k.holds c.requires.well)) h in
    let o = k.last c.requires.well h in
    let last_is = c.fresh-self.ensures in
    let done : b.volume ≡ image j.last a.log a.volume = c.in-Ok.ensures.done h ∙ ap (λ (x : Head). image x a.log a.volume) c.before-2.ensures ∙ sym (before-image j.last a held.0 held.1) in
    let long : length b.volume ≡ j.last.len = ap length done ∙ length-image j.last a.log a.volume in
    let last : image c.fresh-self.result b.log b.volume ≡ image j.last a.log a.volume = ap (λ (x : Head). image x b.log b.volume) (last_is ∙ ap (fresh j.last) (sym long)) ∙ fresh-image b j.last ∙ done in
    done ∙ sym last
