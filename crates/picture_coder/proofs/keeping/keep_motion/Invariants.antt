use Rattle.std.proofs.Common.{◌≡◌, length, map, take}
use Rattle.spec_decoder.specs.Frames.{motion_of}
use Rattle.picture_coder.proofs.keeping.keep_motion.Given as goal

abbrev pub invariant-loop-m : goal.invariant-loop-m
invariant-loop-m l = (length l.kept ≡ length l.records) × (take l.m l.kept ≡ map motion_of (take l.m l.records))
