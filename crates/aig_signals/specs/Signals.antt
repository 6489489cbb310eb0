-- Signals: vectors, and entries that are in none. A vector is a longest run of two or more neighbours of a section
-- whose first names are X[n], X[n + 1], .. (our own choice, after the names that yosys writes).
-- Example: latches `q[0]`, `q[1]`, `r` are the signals `q` and `r`.
use Rattle.std.specs.Prelude.{ℕ, zero, suc, ◌+◌, ◌-◌, ◌==◌, ◌&&◌, Bool, true, false, nat_lt, if◌then◌else◌, List, []}
use Rattle.std.specs.Prelude.{◌∷◌, ◌++◌, length, map, decimal, Option, None, Some, count_by}
use Rattle.std.specs.List.{flat_map}
use Rattle.std.specs.Str.{bytes_eq}
use Rattle.aig_parts.specs.declared.raw.Raw.{Raw}
use Rattle.aig_parts.specs.declared.symbols.Kind.{Kind}
use Rattle.aig_names.specs.Vectors.{next_name, bit_of}
use Rattle.aig_signals.specs.declared.run.Run.{Run}
use Rattle.aig_signals.specs.declared.signal.Signal.{Signal}
use Rattle.aig_signals.specs.Names.{first_name, literals_of, sections}

-- whether the entry after position p is the next bit of the same vector
abbrev pub goes_on : Raw → Kind → ℕ → Bool
goes_on raw kind p = bytes_eq (next_name (first_name raw kind p)) (first_name raw kind (p + 1))

-- one entry more in front of runs: it is the first of their first one, or a run of its own
abbrev pub put_entry : Bool → ℕ → List Run → List Run
put_entry true p (run ∷ runs) = record { first = p; end = run.end } ∷ runs
put_entry goes p runs = record { first = p; end = p + 1 } ∷ runs

-- how many entries a run has
abbrev pub size_of : Run → ℕ
size_of run = run.end - run.first

-- the runs of so many entries from position p on
unfoldable pub runs_from : Raw → Kind → ℕ → ℕ → List Run
runs_from raw kind p zero = []
runs_from raw kind p (suc n) = put_entry (goes_on raw kind p) p (runs_from raw kind (p + 1) n)

-- the runs of a section
abbrev pub runs_of : Raw → Kind → List Run
runs_of raw kind = runs_from raw kind 0 (length (literals_of raw kind))

-- X and n of a run's first name X[n], where the run is a vector
abbrev pub first_bit : List ℕ → ℕ → Option (List ℕ × ℕ)
first_bit first size = if nat_lt 1 size then bit_of first else None

-- whether a run with this first bit is a vector X
abbrev pub is_called : List ℕ → Option (List ℕ × ℕ) → Bool
is_called x None = false
is_called x (Some bit) = bytes_eq x bit.0

-- the first bit of a run
abbrev pub bit_in : Raw → Kind → Run → Option (List ℕ × ℕ)
bit_in raw kind run = first_bit (first_name raw kind run.first) (size_of run)

-- how many vectors X of these there are
abbrev pub count_called : Raw → Kind → List ℕ → List Run → ℕ
count_called raw kind x runs = count_by (λ run. is_called x (bit_in raw kind run)) runs

-- a vector's name: X where it is the only one and starts at 0, else X[m:n] with its last and its first index
abbrev pub vector_name : List ℕ → ℕ → ℕ → Bool → List ℕ
vector_name x n size only =
    if only && n == 0 then x else x ++ (91 ∷ (decimal (n + (size - 1)) ++ (58 ∷ (decimal n ++ 93 ∷ []))))

-- the name of a run: an entry alone has its first name
abbrev pub name_by : List ℕ → Option (List ℕ × ℕ) → ℕ → (List ℕ → Bool) → List ℕ
name_by first None size only = first
name_by first (Some bit) size only = vector_name bit.0 bit.1 size (only bit.0)

abbrev pub run_name : Raw → Kind → List Run → Run → List ℕ
run_name raw kind runs run =
    name_by (first_name raw kind run.first) (bit_in raw kind run) (size_of run) (λ x. count_called raw kind x runs == 1)

-- the signal that a run is
abbrev pub signal_of : Raw → Kind → List Run → Run → Signal
signal_of raw kind runs run =
    record { kind = kind; first = run.first; end = run.end; name = run_name raw kind runs run }

-- the signals of a section
unfoldable pub section_signals : Raw → Kind → List Signal
section_signals raw kind = map (signal_of raw kind (runs_of raw kind)) (runs_of raw kind)

-- all signals, in the order of the circuit
abbrev pub signals_of : Raw → List Signal
signals_of raw = flat_map (section_signals raw) sections
