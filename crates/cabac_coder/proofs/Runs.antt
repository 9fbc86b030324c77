-- Bins one after another, for the loops of callers.
use Rattle.std.proofs.Common.{◌≡◌, inl, inr, Bool, false, List, ◌++◌, refl, arith, ap}
use Rattle.spec_cabac.specs.Bins.{Bin}
use Rattle.spec_cabac.specs.Code.{Coded, run}
use Rattle.spec_cabac.proofs.Ranges.{run-append, shifts-run}
use Rattle.cabac_coder.specs.State.{CoderState, coded_of, stepped, FullAt}

pub stepped-stepped : (s : CoderState) (f g : Coded) (d e : Bool) → stepped (stepped s f d) g e ≡ stepped s g e
stepped-stepped s f g d e = refl

-- where some bins do not fit, no more bins do
pub full_on : (s : CoderState) (xs ys : List Bin) → FullAt s (run xs (coded_of s)) → FullAt s (run (xs ++ ys) (coded_of s))
full_on s xs ys (inl e) = inl e
full_on s xs ys (inr k) =
    let a : (run (xs ++ ys) (coded_of s)).shifts ≡ (run ys (run xs (coded_of s))).shifts = ap (λ (e : Coded). e.shifts) (run-append xs ys (coded_of s)) in
    inr (omega (arith, shifts-run ys (run xs (coded_of s))))

-- what does not fit after bins did not fit before them, and the other way round
pub full_before : (s : CoderState) (f g : Coded) (d : Bool) → FullAt (stepped s f d) g → FullAt s g
full_before s f g d (inl e) = cc
full_before s f g d (inr k) = inr k

pub full_after : (s : CoderState) (f g : Coded) (d : Bool) → s.full ≡ false → FullAt s g → FullAt (stepped s f d) g
full_after s f g d n (inl e) = cc
full_after s f g d n (inr k) = inr k
