-- Worked rows of the ledger.
use Rattle.std.proofs.Common.{ℕ, ◌≡◌, ◌+◌, ◌*◌, refl}
use Rattle.enc_tables.specs.declared.records.SliceKind.TheVariants.{I, P, B}
use Rattle.spec_buffer.specs.Buffer.{Rate}
use Rattle.spec_buffer.specs.Ledger.{fresh, available, filler_bytes, base_after, spent, start_qp, initial_delay, half_full}

-- 25 pictures a second
film : ℕ → ℕ → ℕ → Rate
film rate cpb delay = record { num = 25; den = 1; rate = rate; cpb = cpb; delay = delay }

-- a share of 40,000 bits: the base rises above 50,000 and falls below 30,000
row_rises : base_after (film 1000000 1000000 45000) 26 50001 ≡ 27
unfolding base_after film
row_rises = refl

row_stays : base_after (film 1000000 1000000 45000) 26 50000 ≡ 26
unfolding base_after film
row_stays = refl

row_stays_low : base_after (film 1000000 1000000 45000) 26 30000 ≡ 26
unfolding base_after film
row_stays_low = refl

row_falls : base_after (film 1000000 1000000 45000) 26 29999 ≡ 25
unfolding base_after film
row_falls = refl

-- the base stays from 0 to 51
row_top : base_after (film 1000000 1000000 45000) 51 50001 ≡ 51
unfolding base_after film
row_top = refl

row_bottom : base_after (film 1000000 1000000 45000) 0 29999 ≡ 0
unfolding base_after film
row_bottom = refl

-- delays that fill half of the buffer
row_half : half_full 64000 2608 ≡ 1833
row_half = refl

row_long : half_full 64 64000000 ≡ 4294967295
row_long = refl

-- Two units in a buffer of 2,048 bits at 64 bits a second: 1,024 bits are there, then 362, and 0.56 more.
row_first : available (film 64 2048 1440000) (fresh 26) ≡ 1024
unfolding available film
row_first = refl

row_second : available (film 64 2048 1440000) (spent (film 64 2048 1440000) (fresh 26) 664 0) ≡ 362
unfolding available spent film
row_second = refl

row_none : filler_bytes (film 64 2048 1440000) (fresh 26) 664 ≡ 0
unfolding filler_bytes film
row_none = refl

row_delay : initial_delay (film 64 2048 1440000) (spent (film 64 2048 1440000) (fresh 26) 664 0) ≡ 509850
unfolding initial_delay spent film
row_delay = refl

-- A buffer of 40,048 bits and a share of 40,000: units of 704 and 656 bits become 19,976 and 40,000 with their filler.
row_filler : 704 + 8 * filler_bytes (film 1000000 40048 1802) (fresh 26) 704 ≡ 19976
unfolding filler_bytes film
row_filler = refl

row_more : 656 + 8 * filler_bytes (film 1000000 40048 1802) (spent (film 1000000 40048 1802) (fresh 26) 704 2409) 656 ≡ 40000
unfolding filler_bytes spent film
row_more = refl

-- no filler unit is shorter than 5 bytes
row_short : filler_bytes (film 1000000 40048 1802) (fresh 26) 19968 ≡ 5
unfolding filler_bytes film
row_short = refl

row_just : filler_bytes (film 1000000 40048 1802) (fresh 26) 19976 ≡ 0
unfolding filler_bytes film
row_just = refl

row_kinds : (start_qp I 26 ≡ 24) × (start_qp P 26 ≡ 26) × (start_qp B 26 ≡ 28)
row_kinds = (refl, refl, refl)

row_clipped : (start_qp I 1 ≡ 0) × (start_qp B 50 ≡ 51)
row_clipped = (refl, refl)
