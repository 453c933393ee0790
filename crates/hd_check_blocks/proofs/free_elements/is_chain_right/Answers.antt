use Rattle.std.proofs.Common.{◌<◌, ◌+◌, ℕ, List, [], ◌∷◌, arith, sym, subst}
use Rattle.hd_bytes.specs.Numbers.{number_at}
use Rattle.hd_image.specs.BlockFaults.{IsElementAt, AreFreeElements}
use Rattle.hd_check_blocks.proofs.ChainSteps.{goes-on, one-more}
use Rattle.hd_check_blocks.proofs.free_elements.is_chain_right.Goals as goal

pub loop-turn-init : goal.loop-turn-init
loop-turn-init c =
    let C : ℕ → List ℕ → Type 0 = λ n ps. AreFreeElements c.args.block.now 7 n ps in
    record {
      right = λ ps h. (ps, subst (λ (n : ℕ). C n ps) c.read_u16-next.ensures h);
      wrong = λ ps h. (ps, subst (λ (n : ℕ). C n ps) (sym c.read_u16-next.ensures) h);
      past = omega arith;
      within = (let long = c.requires in omega (arith, long.0));
    }

pub returns-then-next-eq0-clause-right : goal.returns-then-next-eq0-clause-right
returns-then-next-eq0-clause-right c = λ h. c.loop-turn.invariant.right [] c.if-next-eq0.true

pub returns-then-next-end-clause-wrong : goal.returns-then-next-end-clause-wrong
returns-then-next-end-clause-wrong c = λ h all chain.
    let left = c.loop-turn.invariant.wrong all chain in
    let on = goes-on c.args.block.now c.loop-turn.end c.loop-turn.next left.0 left.1 c.if-next-eq0.false in
    let past = on.past in
    let low = c.if-next-end.true in
    absurd (omega arith)

pub returns-then-not-is_element-clause-wrong : goal.returns-then-not-is_element-clause-wrong
returns-then-not-is_element-clause-wrong c = λ h all chain.
    let left = c.loop-turn.invariant.wrong all chain in
    let on = goes-on c.args.block.now c.loop-turn.end c.loop-turn.next left.0 left.1 c.if-next-eq0.false in
    c.is_element.ensures.wrong c.if-not-is_element.true on.element

pub loop-turn-preserved : goal.loop-turn-preserved
loop-turn-preserved c =
    let block : List ℕ = c.args.block.now in
    let i = c.loop-turn.invariant in
    let element : IsElementAt block c.loop-turn.next = c.is_element.ensures.right c.if-not-is_element.false in
    let past : c.loop-turn.end < c.loop-turn.next = (let low = c.if-next-end.false in omega arith) in
    let C : ℕ → ℕ → List ℕ → Type 0 = λ n m ps. AreFreeElements block (c.loop-turn.next + n) m ps in
    record {
      right = λ ps h. i.right (c.loop-turn.next ∷ ps) (one-more block c.loop-turn.end c.loop-turn.next ps past element
          (subst (λ (n : ℕ). C n (number_at 2 block c.loop-turn.next) ps) c.read_u16.ensures (subst (λ (m : ℕ). C c.read_u16.result m ps) c.read_u16-next-in-loop-turn.ensures h)));
      wrong = λ all h.
          (let left = i.wrong all h in
          let on = goes-on block c.loop-turn.end c.loop-turn.next left.0 left.1 c.if-next-eq0.false in (
            on.rest,
            subst (λ (n : ℕ). C n c.read_u16-next-in-loop-turn.result on.rest) (sym c.read_u16.ensures)
                (subst (λ (m : ℕ). C (number_at 2 block (c.loop-turn.next + 2)) m on.rest) (sym c.read_u16-next-in-loop-turn.ensures) on.chain),
          ));
      past = (let e = c.read_u16.ensures in let s = element.element.some in let p = i.past in omega arith);
      within = (let e = c.read_u16.ensures in let w = element.within in omega arith);
    }

pub returns-clause-wrong : goal.returns-clause-wrong
returns-clause-wrong c = λ h all chain.
    let i = c.loop-turn.invariant in
    let past = i.past in
    let within = i.within in
    let end = c.loop-turn-test.false in
    absurd (omega arith)
