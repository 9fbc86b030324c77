-- Vectors and costs of nine partitions that are put in place one after another.
use Rattle.std.proofs.Common.{◌≡◌, ◌≢◌, ℕ, ◌+◌, ◌<◌, List, get_or, set, length, subst, arith, inl, inr}
use Rattle.std.proofs.lemmas.Bool.{cases_lt}
use Rattle.std.proofs.lemmas.List.{get_or-set_same, get_or-set_other}
use Rattle.enc_tables.specs.declared.records.Vector.{Vector}
use Rattle.enc_tables.specs.Records.{zero_vector}
use Rattle.std.specs.Prelude.{ℤ}
use Rattle.spec_search.specs.declared.blocks.Block.{Block}
use Rattle.spec_search.specs.Refine.{IsRefined}

pub one_more : (P : ℕ → Vector → ℕ → Type 0) (vs : List Vector) (ss : List ℕ) (k : ℕ) (v : Vector) (s : ℕ) → k < length vs → k < length ss
    → ((j : ℕ) → j < k → P j (get_or vs j zero_vector) (get_or ss j 0)) → P k v s
    → (j : ℕ) → j < k + 1 → P j (get_or (set vs k v) j zero_vector) (get_or (set ss k s) j 0)
one_more P vs ss k v s a b h now j p = elim (cases_lt j k) [
  | inl lt ↦ (let n : j ≢ k = λ e. omega arith in rw (get_or-set_other vs k j v zero_vector n, get_or-set_other ss k j s 0 n) (h j lt))
  | inr ge ↦ (let e : k ≡ j = omega arith in
      subst (λ (t : ℕ). P t (get_or (set vs k v) t zero_vector) (get_or (set ss k s) t 0)) e
      (rw (get_or-set_same vs k v zero_vector a, get_or-set_same ss k s 0 b) now))
]

-- what was refined is the same block's, from the same vector
pub refined_at : (costs : Block → Vector → ℕ) (a b : Block) (x y u v : ℤ) (best : Vector) (size : ℕ) → a ≡ b → x ≡ u → y ≡ v → IsRefined (costs a) x y best size → IsRefined (costs b) u v best size
refined_at costs a b x y u v best size e f g h =
    subst (λ (t : ℤ). IsRefined (costs b) u t best size) g
    (subst (λ (t : ℤ). IsRefined (costs b) t y best size) f
    (subst (λ (t : Block). IsRefined (costs t) x y best size) e h))
