mod FirstWords
