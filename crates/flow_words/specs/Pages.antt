-- The pages that are the same for every call.
use Rattle.std.specs.Prelude.{ℕ, List, [], ◌∷◌, ◌++◌, codes}
use Rattle.std.specs.List.{flat_map}

-- The lines of the help: what can be asked for, the options of a run, the statuses, and where to read on.
unfoldable pub help_lines : List (List ℕ)
help_lines = codes "flow NETFILE [WORD=TEXT ..]  runs the network of the file, and prints a report"
    ∷ codes "flow --check NETFILE         prints the file in its plain spelling; nothing runs"
    ∷ codes "flow --determinate NETFILE   tells whether each run on the same files ends alike"
    ∷ codes "flow --replay FILE NETFILE   makes the turns of the journal in FILE again"
    ∷ codes "flow --make N                runs the network that is made from N, from 1 to 100"
    ∷ codes "flow --texts NETFILE         lists the network's words, and what each may be"
    ∷ codes "flow --kinds                 prints the kinds of processes, with their ports"
    ∷ codes "flow --help, -h; --version   prints this page, or which version this is"
    ∷ codes "flow -- NETFILE              is flow NETFILE for a name that begins with -"
    ∷ []
    ∷ codes "Options of a run:"
    ∷ codes "--workers N     N workers run it, a thread each: 1 to 32, or 0; also with --make"
    ∷ codes "--journal FILE  writes the journal of the run to FILE, for --replay"
    ∷ codes "--tapes FILE    writes the tapes of components of your own; --replay reads them"
    ∷ codes "--report FILE   writes the report to FILE, and prints nothing of it"
    ∷ codes "--quiet         says nothing of a run that finished with nothing left"
    ∷ codes "--brief         of what is left names ten packets, and tells how many more; with"
    ∷ codes "                --report FILE this goes to the standard error"
    ∷ codes "--progress      tells on the standard error how far the run is"
    ∷ []
    ∷ codes "Status: 0 finished, 1 packets are left, 2 words refused, 3 network refused,"
    ∷ codes "4 stuck, 5 a process failed, 6 read fault, 7 write fault, 8 no memory,"
    ∷ codes "9 too long, 10 journal refused, 11 a replay could go on, 12 tapes refused."
    ∷ codes "Read on in docs/NETWORKS.md, docs/RUNS.md and docs/FORMATS.md."
    ∷ []

-- The line of the version.
unfoldable pub version_lines : List (List ℕ)
version_lines = codes "flow 1.0.0, for network files of the versions 1, 2 and 3" ∷ []

-- The text of these lines, each with byte 10 at its end.
unfoldable pub text_of : List (List ℕ) → List ℕ
text_of lines = flat_map (λ line. line ++ 10 ∷ []) lines
