use Rattle.std.proofs.Common.{◌≡◌, ◌≤◌, ◌*◌, ◌-◌, ◌/◌, ap₂, arith}
use Rattle.spec_buffer.specs.Buffer.{scale, arrived}
use Rattle.buffer_control.proofs.Room.{available_small}
use Rattle.buffer_control.specs.Seen.{rate_of, spent_of}
use Rattle.buffer_control.proofs.Ledger.available.Goals as goal

pub overflow_cast-result : goal.overflow_cast-result
overflow_cast-result c =
    let l = c.args.self.now in
    let same : c.left.result / c.scale.result ≡ (arrived (rate_of l) l.units - scale (rate_of l) * l.bits) / scale (rate_of l) = ap₂ (λ a b. a / b) c.left.ensures c.scale.ensures.value in
    let few : (arrived (rate_of l) l.units - scale (rate_of l) * l.bits) / scale (rate_of l) ≤ l.cpb = available_small (rate_of l) (spent_of l) l.settings l.keeps in
    record { fits = omega (arith, same, few, l.size) }

pub returns-clause-buffer : goal.returns-clause-buffer
returns-clause-buffer c =
    let l = c.args.self.now in
    let same : c.left.result / c.scale.result ≡ (arrived (rate_of l) l.units - scale (rate_of l) * l.bits) / scale (rate_of l) = ap₂ (λ a b. a / b) c.left.ensures c.scale.ensures.value in
    let few : (arrived (rate_of l) l.units - scale (rate_of l) * l.bits) / scale (rate_of l) ≤ l.cpb = available_small (rate_of l) (spent_of l) l.settings l.keeps in
    omega (arith, same, few)
