-- The arguments that the program takes.
use Rattle.std.specs.Prelude.{ℕ, List, ◌++◌, codes}

-- one line for each command, each ending in LF
unfoldable pub usage_text : List ℕ
usage_text =
    codes "fedi usage\n"
    ++ (codes "fedi init STORE HOST\n"
    ++ (codes "fedi add-actor STORE NAME [--locked]\n"
    ++ (codes "fedi add-peer STORE HOST KEY ADDRESS [--relay]\n"
    ++ (codes "fedi inetd STORE\n"
    ++ (codes "fedi serve STORE ADDRESS\n"
    ++ (codes "fedi deliver STORE\n"
    ++ (codes "fedi export STORE actors|activities|queue\n"
    ++ (codes "fedi check STORE\n"
    ++ (codes "fedi migrate OLD NEW\n"
    ++ (codes "fedi report STORE NAME KIND\n"
    ++ (codes "fedi demo NUMBER\n"
    ++ codes "fedi play\n")))))))))))
