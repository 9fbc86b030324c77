use Rattle.std.proofs.Common.{ℕ, ◌≡◌, ◌+◌, ◌-◌, ◌*◌, ◌/◌, ◌%◌, ◌^◌, ◌<◌, ◌≤◌, List, length, take, get_or, sym, ap, subst, ◌∙◌, arith}
use Rattle.bit_strings.specs.BitText.{BitText, filled}
use Rattle.bit_strings.proofs.Buffer.{same_text, length-filled, cut_whole, cut_last}
use Rattle.std.proofs.lemmas.Nat.{shr_below}
use Rattle.std.proofs.lemmas.List.{get_or_default}
use Rattle.bit_strings.proofs.bit_buf.BitBuf.cut.Goals as goal

-- the bits that are left of the byte that is begun
last_cut : (xs : List ℕ) (used begun bits len : ℕ) → len ≡ length xs → len * 8 ≤ bits → bits ≤ 8 * length xs + used →
    take bits (filled xs used begun) ≡ filled xs (bits - len * 8) (begun / 2 ^ (used - (bits - len * 8)))
last_cut xs used begun bits len e a b =
    let k : ℕ = bits - len * 8 in
    let m : ℕ = used - k in
    let u : used ≡ k + m = omega arith in
    let t : bits ≡ 8 * length xs + k = omega arith in
    ap (λ n. take n (filled xs used begun)) t ∙ ap (λ n. take (8 * length xs + k) (filled xs n begun)) u ∙ cut_last xs k m begun

inner_cut : (xs : List ℕ) (used begun bits x : ℕ) → bits < 8 * length xs → x ≡ get_or xs (bits / 8) x →
    take bits (filled xs used begun) ≡ filled (take (bits / 8) xs) (bits % 8) (x / 2 ^ (8 - bits % 8))
inner_cut xs used begun bits x h e =
    let t : bits ≡ 8 * (bits / 8) + bits % 8 = omega arith in
    let y : get_or xs (bits / 8) 0 ≡ x = get_or_default xs (bits / 8) 0 x (omega arith) ∙ sym e in
    ap (λ n. take n (filled xs used begun)) t ∙ cut_whole xs (bits / 8) (bits % 8) begun used (omega arith) (omega arith)
    ∙ ap (λ b. filled (take (bits / 8) xs) (bits % 8) (b / 2 ^ (8 - bits % 8))) y

part_fits : (v used k : ℕ) → v < 2 ^ used → k ≤ used → v / 2 ^ (used - k) < 2 ^ k
part_fits v used k h l =
    let e : used ≡ k + (used - k) = omega arith in
    let g : v < 2 ^ (k + (used - k)) = subst (λ (n : ℕ). v < 2 ^ n) e h in
    shr_below v k (used - k) g

pub overflow_sub-self : goal.overflow_sub-self
overflow_sub-self c =
    let f = c.self.inside in
    let k = subst (λ (t : BitText). c.args.bits ≤ length t.text) (sym c.self.view_is) c.requires in
    omega (arith, k, length-filled f.bytes.items f.used f.begun, c.len.ensures)

pub invariant_of-self : goal.invariant_of-self
invariant_of-self c =
    let f = c.self.inside in
    let k = subst (λ (t : BitText). c.args.bits ≤ length t.text) (sym c.self.view_is) c.requires in
    let n : c.args.bits - c.len.result * 8 ≤ f.used = omega (arith, k, length-filled f.bytes.items f.used f.begun, c.len.ensures) in (
      omega (arith, c.self.invariant),
      part_fits f.begun f.used (c.args.bits - c.len.result * 8) c.self.invariant.1 n,
      omega (arith, c.self.invariant),
      c.self.invariant.3,
      c.self.invariant.4,
      c.self.invariant.5,
    )

pub returns-then-bits-whole : goal.returns-then-bits-whole
returns-then-bits-whole c =
    let f = c.self.inside in
    let k = subst (λ (t : BitText). c.args.bits ≤ length t.text) (sym c.self.view_is) c.requires in
    let n : c.args.bits ≤ 8 * length f.bytes.items + f.used = omega (arith, k, length-filled f.bytes.items f.used f.begun) in
    same_text _ _ _ _ _ _
    (sym (last_cut f.bytes.items f.used f.begun c.args.bits c.len.result (omega (arith, c.len.ensures)) c.if-bits-whole.true n) ∙ ap (λ t. take c.args.bits t.text) c.self.view_is)
    (ap (λ t. t.room) c.self.view_is) (ap (λ t. t.made) c.self.view_is)

pub invariant_of-self-2 : goal.invariant_of-self-2
invariant_of-self-2 c =
    let x : c.index.result.now < 2 ^ 8 = omega arith in (
      omega arith,
      part_fits c.index.result.now 8 (c.args.bits % 8) x (omega arith),
      omega (arith, c.self.invariant, c.truncate.ensures.len, c.len.ensures),
      c.self.invariant.3,
      omega (arith, c.self.invariant, c.truncate.ensures.capacity),
      c.self.invariant.5,
    )

pub returns : goal.returns
returns c =
    let f = c.self.inside in
    same_text _ _ _ _ _ _
    (ap (λ items. filled items (c.args.bits % 8) (c.index.result.now / 2 ^ (8 - c.args.bits % 8))) c.truncate.ensures.items
    ∙ sym (inner_cut f.bytes.items f.used f.begun c.args.bits c.index.result.now
    (omega (arith, c.len.ensures, c.if-bits-whole.false)) c.index.ensures) ∙ ap (λ t. take c.args.bits t.text) c.self.view_is)
    (ap (λ t. t.room) c.self.view_is) (ap (λ t. t.made) c.self.view_is)
