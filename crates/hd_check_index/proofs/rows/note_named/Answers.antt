use Rattle.std.proofs.Common.{rules, ◌≡◌, ◌≤◌, ◌+◌, ◌++◌, ◌∷◌, [], ℕ, List, length, length-append, sym, ap, ◌∙◌, subst, arith}
use Rattle.hd_bytes.specs.Numbers.{number_at}
use Rattle.hd_volume.specs.Entries.{Entry, entries_at}
use Rattle.hd_index_blocks.specs.Fields.{entry_in}
use Rattle.hd_index_blocks.proofs.EntryLemmas.{entries-more}
use Rattle.hd_index_blocks.specs.Levels.{named}
use Rattle.hd_check_index.specs.declared.rows.Standing.{Standing}
use Rattle.hd_check_index.specs.Rows.{row_of}
use Rattle.hd_check_index.proofs.RowSteps.{none-behind, named-more}
use Rattle.hd_check_index.proofs.rows.note_named.Goals as goal

pub loop-index-init : goal.loop-index-init
loop-index-init c = record { longer = omega arith; named_are = sym (none-behind c.args.rows.now.items) }

pub loop-index-preserved : goal.loop-index-preserved
loop-index-preserved c =
    let k : ℕ = c.args.block.now.key_length in
    let b : List ℕ = c.args.block.now.bytes.now in
    let i = c.loop-index.invariant in
    let n : ℕ = c.loop-index.index in
    let l : ℕ = c.args.level in
    let e : Entry = entry_in k b n in
    let es : List Entry = entries_at k b 12 n in
    let own : Standing = record { number = c.address-number.result; level = l } in
    let pushed : c.push.new.self.items ≡ c.loop-index.rows.items ++ (own ∷ []) = search rules in
    let longer = i.longer in
    let len : length c.push.new.self.items ≡ length c.loop-index.rows.items + 1 = ap length pushed ∙ length-append c.loop-index.rows.items (own ∷ []) in
    let is : c.address-number.result ≡ e.address = c.address-number.ensures in
    record {
      longer = omega arith;
      named_are = pushed ∙ ap (λ (a : ℕ). c.loop-index.rows.items ++ (record { number = a; level = l } ∷ [])) is
          ∙ named-more l c.args.rows.now.items c.loop-index.rows.items es e i.named_are
          ∙ ap (λ (t : List Entry). c.args.rows.now.items ++ row_of l (named t)) (sym (entries-more k b 12 n));
    }

pub returns-clause-longer : goal.returns-clause-longer
returns-clause-longer c = c.loop-index.invariant.longer

pub returns-clause-named : goal.returns-clause-named
returns-clause-named c = λ fits.
    let k : ℕ = c.args.block.now.key_length in
    let b : List ℕ = c.args.block.now.bytes.now in
    let high = c.loop-index-test.false in
    let low = c.loop-index.auto.index-end in
    let count = c.count-index-end.ensures.value in
    let all : number_at 2 b 4 ≤ c.count-index-end.result = omega arith in
    let last : c.loop-index.index ≡ number_at 2 b 4 = omega arith in
    subst (λ (n : ℕ). c.loop-index.rows.items ≡ c.args.rows.now.items ++ row_of c.args.level (named (entries_at k b 12 n))) last c.loop-index.invariant.named_are
