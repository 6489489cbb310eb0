-- Runs of bits of vectors.
use Rattle.std.proofs.Common.{◌≡◌, ℕ, ◌+◌, ◌<◌, ◌≤◌, true, false, List, [], ◌∷◌, ◌++◌, length, get_or, drop, map, refl}
use Rattle.std.proofs.Common.{sym, ap, ◌∙◌, append_assoc}
use Rattle.std.specs.Prelude.{reverse}
use Rattle.std.specs.Str.{bytes_eq}
use Rattle.std.proofs.lemmas.List.{drop_more, drop_all, map-append, reverse-append}
use Rattle.aig_names.specs.Vectors.{next_name, turned_after}
use Rattle.aig_names.specs.declared.signals.NamedSignal.{NamedSignal}
use Rattle.aig_names.specs.state.Naming.{named, name_text, next_of}

run_goes_on : (run rest : List (ℕ × List ℕ)) (signal : ℕ × List ℕ) (next : List ℕ) → next_of run next
    → bytes_eq next signal.1 ≡ true → turned_after run (signal ∷ rest) ≡ turned_after (signal ∷ run) rest
unfolding turned_after
run_goes_on [] rest signal next of e = refl
run_goes_on (last ∷ run) rest signal next of e =
    let same : bytes_eq (next_name last.1) signal.1 ≡ true = rw of at e in
    rw same refl

run_ends : (run rest : List (ℕ × List ℕ)) (signal : ℕ × List ℕ) (next : List ℕ) → next_of run next
    → bytes_eq next signal.1 ≡ false → turned_after run (signal ∷ rest) ≡ run ++ turned_after (signal ∷ []) rest
unfolding turned_after
run_ends [] rest signal next of e = refl
run_ends (last ∷ run) rest signal next of e =
    let other : bytes_eq (next_name last.1) signal.1 ≡ false = rw of at e in
    rw other refl

no_more : (run : List (ℕ × List ℕ)) → turned_after run [] ≡ run
unfolding turned_after
no_more run = refl

-- a run has one signal more
last_first : (run : List NamedSignal) (signal : NamedSignal) → map named (reverse (run ++ signal ∷ [])) ≡ named signal ∷ map named (reverse run)
last_first run signal = ap (map named) (reverse-append run (signal ∷ []))

pub next_of_last : (between run' : List NamedSignal) (signal : NamedSignal) (next name : List ℕ) → next ≡ next_name name → name ≡ name_text signal.name
    → run' ≡ between ++ signal ∷ [] → next_of (map named (reverse run')) next
next_of_last between run' signal next name e is r =
    let same : map named (reverse run') ≡ named signal ∷ map named (reverse between) =
    ap (λ (t : List NamedSignal). map named (reverse t)) r ∙ last_first between signal in
    rw same (e ∙ ap next_name is)

next_signal : (run : List (ℕ × List ℕ)) (column : List NamedSignal) (i : ℕ) (d : NamedSignal) → i < length column
    → turned_after run (map named (drop i column)) ≡ turned_after run (named (get_or column i d) ∷ map named (drop (i + 1) column))
next_signal run column i d lt = ap (λ (t : List NamedSignal). turned_after run (map named t)) (drop_more column i d lt)

pub goes_on_at : (done done' run between run' column : List NamedSignal) (i : ℕ) (d : NamedSignal) (next name : List ℕ) → i < length column
    → next_of (map named (reverse run)) next → name ≡ name_text (get_or column i d).name → bytes_eq next name ≡ true
    → done' ≡ done → between ≡ run → run' ≡ between ++ get_or column i d ∷ []
    → map named done' ++ turned_after (map named (reverse run')) (map named (drop (i + 1) column))
    ≡ map named done ++ turned_after (map named (reverse run)) (map named (drop i column))
goes_on_at done done' run between run' column i d next name lt of is e s b r =
    let x : NamedSignal = get_or column i d in
    let rest : List (ℕ × List ℕ) = map named (drop (i + 1) column) in
    let same : run' ≡ run ++ x ∷ [] = r ∙ ap (λ (t : List NamedSignal). t ++ x ∷ []) b in
    let answer : bytes_eq next (name_text x.name) ≡ true = rw is at e in
    (λ j. map named (s j) ++ turned_after (map named (reverse (same j))) rest)
    ∙ sym (ap (λ (t : List (ℕ × List ℕ)). map named done ++ t)
    (next_signal (map named (reverse run)) column i d lt ∙ run_goes_on (map named (reverse run)) rest (named x) next of answer
    ∙ ap (λ (t : List (ℕ × List ℕ)). turned_after t rest) (sym (last_first run x))))

pub ends_at : (done done' run between run' column : List NamedSignal) (i : ℕ) (d : NamedSignal) (next name : List ℕ) → i < length column
    → next_of (map named (reverse run)) next → name ≡ name_text (get_or column i d).name → bytes_eq next name ≡ false
    → done' ≡ done ++ reverse run → between ≡ [] → run' ≡ between ++ get_or column i d ∷ []
    → map named done' ++ turned_after (map named (reverse run')) (map named (drop (i + 1) column))
    ≡ map named done ++ turned_after (map named (reverse run)) (map named (drop i column))
ends_at done done' run between run' column i d next name lt of is e s b r =
    let x : NamedSignal = get_or column i d in
    let rest : List (ℕ × List ℕ) = map named (drop (i + 1) column) in
    let same : run' ≡ x ∷ [] = r ∙ ap (λ (t : List NamedSignal). t ++ x ∷ []) b in
    let answer : bytes_eq next (name_text x.name) ≡ false = rw is at e in
    (λ j. map named (s j) ++ turned_after (map named (reverse (same j))) rest)
    ∙ ap (λ (t : List (ℕ × List ℕ)). t ++ turned_after (named x ∷ []) rest) (map-append named done (reverse run))
    ∙ append_assoc (map named done) (map named (reverse run)) (turned_after (named x ∷ []) rest)
    ∙ sym (ap (λ (t : List (ℕ × List ℕ)). map named done ++ t)
    (next_signal (map named (reverse run)) column i d lt ∙ run_ends (map named (reverse run)) rest (named x) next of answer))

pub all_done : (done run column : List NamedSignal) (i : ℕ) → length column ≤ i
    → map named (done ++ reverse run) ≡ map named done ++ turned_after (map named (reverse run)) (map named (drop i column))
all_done done run column i le =
    map-append named done (reverse run)
    ∙ sym (ap (λ (t : List (ℕ × List ℕ)). map named done ++ t)
    (ap (λ (t : List NamedSignal). turned_after (map named (reverse run)) (map named t)) (drop_all i column le)
    ∙ no_more (map named (reverse run))))
