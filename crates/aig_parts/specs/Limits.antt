-- The limits of frames and cells (our own choice).
-- Example: 65,536 frames of 1,024 variables fill a grid.
use Rattle.std.specs.Prelude.{ℕ}

-- the greatest number of frames of a stimulus, of a witness's run and of an unrolling
abbrev pub frame_limit : ℕ
frame_limit = 65536

-- the greatest number of cells of a grid, which has one for each variable and frame
abbrev pub cell_limit : ℕ
cell_limit = 67108864
