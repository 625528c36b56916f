-- What `--help` prints.
use Rattle.std.specs.Prelude.{ℕ, List, [], ◌∷◌, ◌++◌, flat_map, codes}

-- a text, and the end of its line
abbrev pub line : List ℕ → List ℕ
line text = text ++ 10 ∷ []

abbrev pub help_text : List ℕ
help_text = flat_map line
    (codes "Usage: guix-auth authenticate COMMIT SIGNER [OPTION]..."
    ∷ codes "       guix-auth channels FILE --clones=DIR [OPTION]..."
    ∷ codes "       guix-auth selftest N"
    ∷ codes "Options of authenticate:"
    ∷ codes "  -r, --repository=DIR"
    ∷ codes "  -k, --keyring=REF"
    ∷ codes "  --end=NAME"
    ∷ codes "  --stats"
    ∷ codes "  --cache-key=KEY"
    ∷ codes "  --historical-authorizations=FILE"
    ∷ codes "Options of channels:"
    ∷ codes "  --clones=DIR"
    ∷ codes "  --allow-downgrades"
    ∷ codes "  --disable-authentication"
    ∷ [])
