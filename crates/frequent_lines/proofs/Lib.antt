mod FrequentLemmas
mod VerbLemmas
